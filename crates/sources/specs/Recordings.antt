-- What a recording's bytes say, and which lengths make one.
use Rattle.std.specs.Prelude.{ℕ, ◌+◌, ◌-◌, ◌*◌, ◌/◌, ◌%◌, Bool, ◌&&◌, List, length, take, drop, fold, ◌==◌, nat_le}
use Rattle.refusal.specs.Refusals.{Answer, given, provided}
use Rattle.sources.specs.Faults.{recording_refusal}
use Rattle.sources.specs.Sources.{Reading}

-- The number that bytes write, most significant first. A byte is below 256, which the remainder says of any number.
abbrev pub big_endian : List ℕ → ℕ
big_endian bytes = fold (λ high b. 256 * high + b % 256) 0 bytes

-- Eight bytes a word, place 1 first.
abbrev pub recorded_word : List ℕ → ℕ → ℕ
recorded_word bytes place = big_endian (take 8 (drop (8 * (place - 1)) bytes))

abbrev pub recording_reading : List ℕ → Reading
recording_reading bytes = record { depth = length bytes / 8; word = recorded_word bytes }

-- From 1 to 2 ^ 20 words, each of them whole.
abbrev pub whole_words : ℕ → Bool
whole_words n = nat_le 1 n && nat_le n 8388608 && n % 8 == 0

abbrev pub recording_answer : List ℕ → Answer Reading
recording_answer bytes =
    provided (whole_words (length bytes)) (recording_refusal (record { length = length bytes }))
    (given (recording_reading bytes))
