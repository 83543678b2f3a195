mod Fewer
mod Hex
mod Traces
