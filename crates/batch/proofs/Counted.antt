-- Every history with its runs as tries.
use Rattle.std.proofs.Common.{◌≡◌, ℕ, suc, ◌^◌, ◌≤◌, Bool, false, cond, List, [], ◌∷◌, ◌++◌, sym, refl, ap, ◌∙◌, subst, inl, inr}
use Rattle.std.proofs.lemmas.Bool.{and_parts, cases_Bool, leb-true}
use Rattle.batch.specs.Histories.{Event, History, event}
use Rattle.batch.specs.Machine.{Machine, Out, drawn, new_machine, open_draw}
use Rattle.batch.specs.Ends.{Two}
use Rattle.batch.specs.Requests.{CarriesByDraw, Said, Response, said_apart, said_misplaced, states_kept}
use Rattle.batch.specs.Tallies.{Tallies, TallyCountsTheCalls, TriesOfRun, Unrolls, UnrollsOne, how_many, is_closed, is_given_up, is_opened}
use Rattle.batch.specs.Tries.{Setting, with_two}
use Rattle.batch.specs.declared.stage.Request.{Request}
use Rattle.batch.specs.declared.stage.Request.TheVariants.{Run}
use Rattle.batch.proofs.Responses.{carried_stretch}
use Rattle.batch.proofs.Tallies.{begins, new_is, tally_step}
use Rattle.batch.proofs.Unrolled.{run_as_tries}
use Rattle.lattice.specs.Kind.{Holds}

-- the stretch is from 1 to 2^20
in_range : (s : Setting) (es : List Event) (m : Machine) → History s es m → (1 ≤ m.stretch) × (m.stretch ≤ 2 ^ 20)
in_range s [] m h =
    let parts = and_parts _ _ (new_is m _ _ (new_machine h.0) h.1).0 in
    let same = ap (λ (x : Machine). x.stretch) (new_is m _ _ (new_machine h.0) h.1).1 in
    (subst (λ (n : ℕ). 1 ≤ n) same (leb-true _ _ parts.0), subst (λ (n : ℕ). n ≤ 2 ^ 20) same (leb-true _ _ parts.1))
in_range s (e ∷ es) m h =
    let older = in_range s es h.0 h.1 in
    let same = sym (carried_stretch s e.states h.0 h.0.out e.request e.response h.2) ∙ ap (λ (x : Machine). x.stretch) (sym h.3) in
    (subst (λ (n : ℕ). 1 ≤ n) same older.0, subst (λ (n : ℕ). n ≤ 2 ^ 20) same older.1)

abbrev Goes_on : Setting → Request → Two → Response → List Event → Type 0
Goes_on s q t sc gs = (fs : List Event) × UnrollsOne q (event q t sc) gs fs × History s fs sc.machine × Tallies fs sc.machine

no_tries : (s : Setting) (t : Two) (sc : Response) (m : Machine) (gs : List Event) → History s gs m → Tallies gs m → sc ≡ states_kept said_misplaced m t → Goes_on s Run t sc gs
no_tries s t sc m gs history tallies is = rw is (gs, inl (refl, refl), history, tallies)

-- a run is its tries, or nothing where it is misplaced
run_on : (s : Setting) (t : Two) (sc : Response) (m : Machine) (o : Out) (gs : List Event) → m.out ≡ o → History s gs m → Tallies gs m → CarriesByDraw s t m o Run sc → Goes_on s Run t sc gs
run_on s t sc m (open_draw d) gs out history tallies run =
    let range = in_range s gs m history in
    let tries = run_as_tries s m (with_two d t) gs out history tallies range.0 range.1 run.0 run.1 in
    let is = sym run.2 in
    let same = ap (λ (x : Response). x.machine) is in
    let all = tries.0 ++ gs in
    let stretch = sym (carried_stretch s t m (open_draw d) Run sc run) in
    let tried = tallies.window d (ap drawn out) in
    let of_run = subst (λ (x : Response). TriesOfRun m.stretch d.tried x tries.0) is tries.1 in (
      all,
      inr (tries.0, subst (λ (n : ℕ). TriesOfRun sc.machine.stretch n sc tries.0) tried (subst (λ (n : ℕ). TriesOfRun n d.tried sc tries.0) stretch of_run), refl),
      subst (History s all) same tries.2,
      subst (Tallies all) same tries.3,
    )
run_on s t sc m o gs out history tallies is = no_tries s t sc m gs history tallies is

goes_on : (s : Setting) (q : Request) (t : Two) (sc : Response) (m : Machine) (gs : List Event) → History s gs m → Tallies gs m → CarriesByDraw s t m m.out q sc → Goes_on s q t sc gs
goes_on s Run t sc m gs history tallies carries = run_on s t sc m m.out gs refl history tallies carries
goes_on s q t sc m gs history tallies carries = (event q t sc ∷ gs, refl, (m, history, carries, refl), tally_step s t gs m m.out q sc refl refl carries tallies)

unrolled : (s : Setting) (es : List Event) (m : Machine) → History s es m → (fs : List Event) × Unrolls es fs × History s fs m × Tallies fs m
unrolled s [] m h = ([], refl, h, begins h.0 m h.1)
unrolled s (e ∷ es) m h =
    let older = unrolled s es h.0 h.1 in
    let on = goes_on s e.request e.states e.response h.0 older.0 older.2 older.3 h.2 in
    let same = sym h.3 in
    (on.0, (older.0, older.1, on.1), subst (History s on.0) same on.2, subst (Tallies on.0) same on.3)

-- tries that were apart add nothing to a count that does not count these
apart_adds_none : (p : Said → Bool) → p said_apart ≡ false → (ts gs : List Event) → ((e : Event) → Holds ts e → e.response.said ≡ said_apart) → how_many p (ts ++ gs) ≡ how_many p gs
apart_adds_none p none_Apart [] gs apart = refl
apart_adds_none p none_Apart (e ∷ ts) gs apart =
    let here : p e.response.said ≡ false = ap p (apart e (inl refl)) ∙ none_Apart in
    rw here (apart_adds_none p none_Apart ts gs (λ f has. apart f (inr has)))

abbrev one_more : (Said → Bool) → Said → ℕ → ℕ
one_more p said n = cond (p said) (suc n) n

-- an event more adds one where its answer is such a one
more : (p : Said → Bool) (e : Event) (es : List Event) → how_many p (e ∷ es) ≡ one_more p e.response.said (how_many p es)
more p e es =
    elim (cases_Bool (p e.response.said)) [
      | inl t ↦ rw t refl
      | inr f ↦ rw f refl
    ]

-- the tries of a run add what the run does
tries_add : (p : Said → Bool) → p said_apart ≡ false → (stretch tried : ℕ) (sc : Response) (ts gs : List Event) → TriesOfRun stretch tried sc ts → how_many p (ts ++ gs) ≡ one_more p sc.said (how_many p gs)
tries_add p none_Apart stretch tried sc [] gs tries = absurd tries
tries_add p none_Apart stretch tried sc (e ∷ ts) gs tries =
    more p e (ts ++ gs)
    ∙ ap (λ (x : Response). one_more p x.said (how_many p (ts ++ gs))) tries.3
    ∙ ap (one_more p sc.said) (apart_adds_none p none_Apart ts gs (λ f has. (tries.4.each f has).4))

one_kept : (p : Said → Bool) → p said_apart ≡ false → p said_misplaced ≡ false → (q : Request) (t : Two) (sc : Response) (gs fs : List Event) → UnrollsOne q (event q t sc) gs fs → how_many p fs ≡ one_more p sc.said (how_many p gs)
one_kept p none_Apart none_misplaced Run t sc gs fs (inl h) = ap (how_many p) h.1 ∙ sym (rw (ap p h.0 ∙ none_misplaced) refl)
one_kept p none_Apart none_misplaced Run t sc gs fs (inr h) = ap (how_many p) h.2 ∙ tries_add p none_Apart _ _ sc h.0 gs h.1
one_kept p none_Apart none_misplaced q t sc gs fs is = ap (how_many p) is ∙ more p (event q t sc) gs

-- with tries in place of runs the counts are the same
count_kept : (p : Said → Bool) → p said_apart ≡ false → p said_misplaced ≡ false → (es fs : List Event) → Unrolls es fs → how_many p fs ≡ how_many p es
count_kept p none_Apart none_misplaced [] fs is = ap (how_many p) is
count_kept p none_Apart none_misplaced (e ∷ es) fs h =
    one_kept p none_Apart none_misplaced e.request e.states e.response h.0 fs h.2
    ∙ ap (one_more p e.response.said) (count_kept p none_Apart none_misplaced es h.0 h.1)
    ∙ sym (more p e es)

pub counted : (s : Setting) → TallyCountsTheCalls s
counted s es m h =
    let other = unrolled s es m h in
    let counts = other.3.counts in (
      record {
        opened = counts.opened ∙ count_kept is_opened refl refl es other.0 other.1;
        met = counts.met ∙ count_kept is_closed refl refl es other.0 other.1;
        given_up = counts.given_up ∙ count_kept is_given_up refl refl es other.0 other.1;
      },
      other,
    )
