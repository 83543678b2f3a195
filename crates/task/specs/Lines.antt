-- What a line of a task means.
use Rattle.std.specs.Prelude.{ℕ, Bool, cond, List, [], ◌∷◌, drop, Some, None, Ok, Err, vec_items, codes, Option, Result, ◌==◌, slice_index}
use Rattle.std.specs.List.{find}
use Rattle.std.specs.Option.{ok_or, option_map}
use Rattle.std.specs.Str.{bytes_eq}
use Rattle.task.specs.Fields.{at_end, bytes_due, numbers_due, path_due, read_as, with_it}
use Rattle.task.specs.Text.{after_word, first, trimmed, words}
use Rattle.task.specs.declared.line.Directive.{Directive}
use Rattle.task.specs.declared.line.Directive.TheVariants.{Spins, Partitions, Sets, Seed, Recording, RecordingFile, Trace, Stretch, Open, Try, Run, Close, GiveUp, Draws, States, Tally}
use Rattle.task.specs.declared.line.Expected.{Expected}
use Rattle.task.specs.declared.line.Expected.TheVariants.{Directive as a_directive}
use Rattle.task.specs.declared.directives.Name.{Name}

-- What a directive asks for.
pub data Request : Type 0 where
  spins : (rows columns : ℕ) (thresholds : List ℕ) → Request
  partitions : (rows columns largest : ℕ) → Request
  sets : (rows columns : ℕ) → Request
  seed : ℕ → Request
  recording : List ℕ → Request
  recording_file : List ℕ → Request
  trace : ℕ → Request
  stretch : ℕ → Request
  «open» : Request
  try : ℕ → Request
  run : Request
  close : Request
  give_up : Request
  draws : ℕ → Request
  states : Request
  tally : Request

pub data Line : Type 0 where
  passed_over : Line
  directive : Request → Line
  unreadable : Expected → Line

abbrev pub names : List (List ℕ × Name)
names =
    (codes "spins", Name.Spins)
    ∷ (codes "partitions", Name.Partitions)
    ∷ (codes "sets", Name.Sets)
    ∷ (codes "seed", Name.Seed)
    ∷ (codes "recording", Name.Recording)
    ∷ (codes "recording-file", Name.RecordingFile)
    ∷ (codes "trace", Name.Trace)
    ∷ (codes "stretch", Name.Stretch)
    ∷ (codes "open", Name.Open)
    ∷ (codes "try", Name.Try)
    ∷ (codes "run", Name.Run)
    ∷ (codes "close", Name.Close)
    ∷ (codes "give-up", Name.GiveUp)
    ∷ (codes "draws", Name.Draws)
    ∷ (codes "states", Name.States)
    ∷ (codes "tally", Name.Tally)
    ∷ []

-- The directive that the word names.
unfoldable pub name_of : List ℕ → Option Name
name_of w = option_map (λ n. n.1) (find (λ n. bytes_eq n.0 w) names)

-- The request of each directive, by what stands behind its name.
abbrev pub request : Name → List ℕ → Result Request Expected
request Name.Spins rest = read_as (λ ns. spins (slice_index ns 0) (slice_index ns 1) (drop 2 ns)) (numbers_due 11 (words rest))
request Name.Partitions rest = read_as (λ ns. partitions (slice_index ns 0) (slice_index ns 1) (slice_index ns 2)) (numbers_due 3 (words rest))
request Name.Sets rest = read_as (λ ns. sets (slice_index ns 0) (slice_index ns 1)) (numbers_due 2 (words rest))
request Name.Seed rest = read_as (λ ns. seed (slice_index ns 0)) (numbers_due 1 (words rest))
request Name.Recording rest = read_as recording (bytes_due (words rest))
request Name.RecordingFile rest = read_as recording_file (path_due (trimmed rest))
request Name.Trace rest = read_as (λ ns. trace (slice_index ns 0)) (numbers_due 1 (words rest))
request Name.Stretch rest = read_as (λ ns. stretch (slice_index ns 0)) (numbers_due 1 (words rest))
request Name.Open rest = at_end (words rest) «open»
request Name.Try rest = read_as (λ ns. try (slice_index ns 0)) (numbers_due 1 (words rest))
request Name.Run rest = at_end (words rest) run
request Name.Close rest = at_end (words rest) close
request Name.GiveUp rest = at_end (words rest) give_up
request Name.Draws rest = read_as (λ ns. draws (slice_index ns 0)) (numbers_due 1 (words rest))
request Name.States rest = at_end (words rest) states
request Name.Tally rest = at_end (words rest) tally

abbrev pub as_line : Result Request Expected → Line
as_line (Ok q) = directive q
as_line (Err e) = unreadable e

-- A number sign begins a remark.
abbrev pub remark : List ℕ → Bool
remark w = slice_index w 0 == 35

abbrev pub by_name : Option (List ℕ) → List ℕ → Line
by_name None rest = passed_over
by_name (Some w) rest = cond (remark w) passed_over (as_line (with_it (ok_or (name_of w) a_directive) (λ name. request name rest)))

-- The first word names the directive.
abbrev pub line_meaning : List ℕ → Line
line_meaning line = by_name (first (words line)) (after_word line)

-- What the program's values stand for.
abbrev pub request_of : Directive → Request
request_of (Spins rows columns thresholds) = spins rows columns thresholds
request_of (Partitions rows columns most) = partitions rows columns most
request_of (Sets rows columns) = sets rows columns
request_of (Seed n) = seed n
request_of (Recording bytes) = recording (vec_items bytes)
request_of (RecordingFile path) = recording_file (vec_items path)
request_of (Trace t) = trace t
request_of (Stretch s) = stretch s
request_of Open = «open»
request_of (Try t) = try t
request_of Run = run
request_of Close = close
request_of GiveUp = give_up
request_of (Draws n) = draws n
request_of States = states
request_of Tally = tally

-- What a reading of a line says.
abbrev pub meaning_of : Result (Option Directive) Expected → Line
meaning_of (Ok None) = passed_over
meaning_of (Ok (Some d)) = directive (request_of d)
meaning_of (Err e) = unreadable e
