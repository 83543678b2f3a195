use Rattle.std.proofs.Common.{rules, ◌≡◌, vec_items, false, length, ◌/◌, take, drop, ◌++◌, codes, ap, ◌∙◌, arith}
use Rattle.std.proofs.Math.Seq.{take-append_seam}
use Rattle.std.specs.Str.{bytes_eq}
use Rattle.task.proofs.Hex.{bytes_kept, bytes_read, none_there}
use Rattle.task.specs.Text.{hex_pairs}
use Rattle.task.proofs.numerals.hex_bytes.Goals as goal

pub returns-clause-value : goal.returns-clause-value
returns-clause-value c =
    let w = c.args.word.now in
    let out = c.decode_to_slice-read.new.out in
    let behind = drop (length out) c.in_ok-bytes.bytes.items in
    let other : false ≡ bytes_eq w (codes "-") = search rules in
    let whole : c.in_ok-bytes.bytes.len ≡ length out = omega arith in
    let room : length c.as_mut_slice.result.now ≡ length w / 2 = omega (arith, c.in_ok-bytes.ensures.len) in
    let same : take c.in_ok-bytes.bytes.len (out ++ behind) ≡ out = ap (λ n. take n (out ++ behind)) whole ∙ take-append_seam out behind in
    bytes_kept vec_items _ _ _ w out c.decode_to_slice-read.result c.then_some.ensures c.is_ok.ensures.value same (bytes_read w out (length c.as_mut_slice.result.now) c.decode_to_slice-read.result other room c.decode_to_slice-read.ensures.value)

pub returns-then-not-is_hex-clause-value : goal.returns-then-not-is_hex-clause-value
returns-then-not-is_hex-clause-value c =
    let w = c.args.word.now in
    let other : false ≡ bytes_eq w (codes "-") = search rules in
    rw (← other) (none_there (hex_pairs w) (search rules))
