-- The contract of a play fixes its answer and its kept buffer: two plays over the same buffers that meet it answer alike and leave the same.
use Prim.Native.Nat.{ℕ, ◌+◌, ◌-◌, ◌≤◌, ◌<◌}
use native.Mathlib.Omega.{arith}
use native.Mathlib.Decide.{dec_lt}
use mathlib.Core.Path.{◌≡◌, refl, sym, ◌∙◌, ap, ap₂, subst}
use mathlib.Core.Logic.{◌⊎◌, inl, inr}
use mathlib.Core.Bool.{true}
use mathlib.Core.List.{List}
use lib.ListN.{length}
use Rattle.words.specs.declared.Written.TheVariants as written
use Rattle.sequences.specs.Sequences.{over}
use Rattle.sequences.proofs.Booleans.{absurd_true}
use Rattle.words.proofs.Testing.{none_some}
use Rattle.tables.specs.Tables.{Tables}
use Rattle.plans.specs.Plans.{Plan, plan_of}
use Rattle.steps.specs.Steps.{Run, after}
use Rattle.steps.specs.Saved.{saved_words}
use Rattle.steps.proofs.Runs.{after_none}
use Rattle.turns.specs.Surveys.{Survey}
use Rattle.turns.specs.Opening.{Opens}
use Rattle.cuts.specs.Uncut.{EndsAt, run_fits, NotTaken, totals_pass, no_room}
use Rattle.cuts.specs.Accepting.{Accepted}
use Rattle.cuts.proofs.Accepting.{opening_accepts}
use Rattle.queries.specs.declared.Keeping.{Keeping}
use Rattle.queries.specs.declared.Played.{Played}
use Rattle.queries.specs.declared.Played.TheVariants.{Finished, Unfinished, Stopped, Refused}
use Rattle.queries.specs.Stepping.{keeps}
use Rattle.queries.specs.Rounds.{Lent}
use Rattle.queries.specs.Playing.{list_after, part_after, Holds, InLimits, Turn, Turns, none_made, one_more_fact, Finishes, Pauses}
use Rattle.queries.specs.Playing.{Cause, output_short, quantum_wrong, list_left, Stops, Leaves, OpeningRefused, Plays}
use Rattle.queries.proofs.Lengths.{no_shorter}
use Rattle.queries.proofs.Once.{not_past, turn_once, turns_once, no_further, made_after}

-- the run ends once
pub ends_once_lem : (t : Tables) (q : Plan) (m n : ℕ) → EndsAt t q m → EndsAt t q n → m ≡ n
ends_once_lem t q m n e f =
    elim (dec_lt m n) [
      | yes l ↦ absurd (f.not_before m l e.over)
      | no g ↦ elim (dec_lt n m) [
        | yes l ↦ absurd (e.not_before n l f.over)
        | no h ↦ omega arith
      ]
    ]

-- one list is refused by one number
refused_once : (t : Tables) (q : Plan) (steps room x y : ℕ) → NotTaken t q steps room x → NotTaken t q steps room y → x ≡ y
refused_once t q steps room x y (totals_pass f) (totals_pass g) = refl
refused_once t q steps room x y (totals_pass f) (no_room g l) = absurd_true g f
refused_once t q steps room x y (no_room f l) (totals_pass g) = absurd_true f g
refused_once t q steps room x y (no_room f l) (no_room g k) = refl

module _ (keep : Keeping) (v : Survey) (plan : List ℕ) (a : Accepted v.tables plan) (quantum room : ℕ) (before : List ℕ) where
  abbrev t : Tables
  t = v.tables

  abbrev q : Plan
  q = plan_of plan

  abbrev Made : ℕ → ℕ → Type 0
  Made c n = Turns t plan quantum room c n

  abbrev For : ℕ → ℕ → Type 0
  For steps x = Cause keep t plan quantum room before steps x

  -- tests 7 and 8 pass of each turn that was made
  made_sized : (c n : ℕ) → Made c n → 0 < c → InLimits plan quantum room
  made_sized c n none_made l = absurd (omega arith)
  made_sized c n (one_more_fact k from to ts x f) l = x.sized

  -- a list that holds has no list up to an earlier step, with which the totals fit, that is not taken
  all_taken : keeps keep q.ending ≡ true → (m n : ℕ) → m ≤ n → run_fits q.ending (after t q m) ≡ true
      → (kept : List ℕ) (words : ℕ) → Holds keep t plan n before kept words
      → (x : ℕ) → NotTaken t q m (length before) x → ⊥
  all_taken b m n l fits kept words h x c =
      let d : m + (n - m) ≡ n = omega arith in
      let long = no_shorter t plan a m (n - m) in
      go fits (omega (arith, long, ap (λ j. length (list_after t plan j)) d, h.counted, ap length (all_kept n), h.room)) x c
    where
      all_kept : (j : ℕ) → part_after keep t plan j ≡ list_after t plan j
      all_kept j = rw b

      go : run_fits q.ending (after t q m) ≡ true → length (list_after t plan m) ≤ length before
          → (y : ℕ) → NotTaken t q m (length before) y → ⊥
      go f r y (totals_pass p) = absurd_true f p
      go f r y (no_room p k) = omega arith

  -- where a cause stops a play, no more turns are made and taken
  not_stopped : (c m y : ℕ) → Made c m → For m y → (d n : ℕ) → Made d n → c < d
      → (kept : List ℕ) (words : ℕ) → Holds keep t plan n before kept words → ⊥
  not_stopped c m y ts (output_short l) d n us f kept words h = let z = made_sized d n us (omega arith) in omega (arith, z.output)
  not_stopped c m y ts (quantum_wrong l g) d n us f kept words h =
      let z = made_sized d n us (omega arith) in
      g (z.least, z.most)
  not_stopped c m y ts (list_left b later x y₁ p) d n us f kept words h =
      let r = made_after t plan a quantum room c d n us f in
      let from_is : r.from ≡ m = turns_once t plan a quantum room c c r.from m r.before ts refl in
      let to_is : r.to ≡ later =
      turn_once t plan a quantum room m r.to later (subst (λ j. Turn t plan quantum room j r.to) from_is r.turn) x in
      all_taken b later n (omega (arith, to_is, r.within)) (ap (λ j. run_fits q.ending (after t q j)) (sym to_is) ∙ r.fits) kept words h y₁ p

  -- the run does not end before the first turn
  some_turn : (c m : ℕ) → Made c m → EndsAt t q m → 0 < c
  some_turn c m none_made e = absurd (none_some (sym e.over ∙ ap (λ (r : Run). r.state) (after_none t q)))
  some_turn c m (one_more_fact k from to ts x f) e = omega arith

  -- and at the end of the run none does
  none_at_end : (c m y : ℕ) → Made c m → EndsAt t q m → For m y → ⊥
  none_at_end c m y ts e (list_left b later x y₁ p) = not_past t plan a quantum room m m later e x.further x
  none_at_end c m y ts e (output_short l) = let z = made_sized c m ts (some_turn c m ts e) in omega (arith, z.output)
  none_at_end c m y ts e (quantum_wrong l g) =
      let z = made_sized c m ts (some_turn c m ts e) in
      g (z.least, z.most)

  cause_once : (m x y : ℕ) → For m x → For m y → x ≡ y
  cause_once m x y (output_short l) (output_short k) = refl
  cause_once m x y (output_short l) (quantum_wrong k g) = absurd (omega arith)
  cause_once m x y (output_short l) (list_left c later z y₁ p) = absurd (omega (arith, z.sized.output))
  cause_once m x y (quantum_wrong l g) (output_short k) = absurd (omega arith)
  cause_once m x y (quantum_wrong l g) (quantum_wrong k h) = refl
  cause_once m x y (quantum_wrong l g) (list_left c later z y₁ p) = absurd (g (z.sized.least, z.sized.most))
  cause_once m x y (list_left c later z x₁ p) (output_short k) = absurd (omega (arith, z.sized.output))
  cause_once m x y (list_left c later z x₁ p) (quantum_wrong k g) = absurd (g (z.sized.least, z.sized.most))
  cause_once m x y (list_left c later z x₁ p) (list_left c₁ later₁ z₁ y₁ r) =
      let e : later ≡ later₁ = turn_once t plan a quantum room m later later₁ z z₁ in
      refused_once t q later₁ (length before) x₁ y₁ (subst (λ n. NotTaken t q n (length before) x₁) e p) r

  -- ---- two plays
  module _ (most : ℕ) where
    same_list : (m n : ℕ) → m ≡ n → (kept kept₁ : List ℕ) (words words₁ : ℕ)
        → Holds keep t plan m before kept words → Holds keep t plan n before kept₁ words₁
        → (words ≡ words₁) × (kept ≡ kept₁)
    same_list m n e kept kept₁ words words₁ h k = (
      h.counted ∙ ap (λ j. length (part_after keep t plan j)) e ∙ sym k.counted,
      h.whole ∙ ap (λ j. over (part_after keep t plan j) before) e ∙ sym k.whole,
    )

    finished_or_paused : (kept : List ℕ) (words : ℕ) → Finishes keep t plan quantum most room before kept words
        → (state kept₁ : List ℕ) (saved words₁ : ℕ) → Pauses keep v plan quantum most room before state kept₁ saved words₁ → ⊥
    finished_or_paused kept words f state kept₁ saved words₁ p =
        elim (dec_lt f.count most) [
          | yes l ↦ no_further t plan a quantum room f.count most f.steps p.stands.steps f.made f.ends p.stands.made l
          | no l ↦
              let e = turns_once t plan a quantum room most f.count p.stands.steps f.steps p.stands.made f.made (omega (arith, f.allowed)) in
              p.stands.going (ap (λ n. (after t q n).state) e ∙ f.ends.over)
        ]

    finished_or_stopped : (kept : List ℕ) (words : ℕ) → Finishes keep t plan quantum most room before kept words
        → (kept₁ : List ℕ) (x : ℕ) → Stops keep t plan quantum most room before kept₁ x → ⊥
    finished_or_stopped kept words f kept₁ x s =
        elim (dec_lt s.count f.count) [
          | yes l ↦ not_stopped s.count s.steps x s.made s.cause f.count f.steps f.made l kept words f.list
          | no l ↦ elim (dec_lt f.count s.count) [
            | yes k ↦ no_further t plan a quantum room f.count s.count f.steps s.steps f.made f.ends s.made k
            | no k ↦
                let e = turns_once t plan a quantum room f.count s.count f.steps s.steps f.made s.made (omega arith) in
                none_at_end s.count s.steps x s.made (subst (EndsAt t q) e f.ends) s.cause
          ]
        ]

    paused_or_stopped : (state kept : List ℕ) (saved words : ℕ) → Pauses keep v plan quantum most room before state kept saved words
        → (kept₁ : List ℕ) (x : ℕ) → Stops keep t plan quantum most room before kept₁ x → ⊥
    paused_or_stopped state kept saved words p kept₁ x s =
        not_stopped s.count s.steps x s.made s.cause most p.stands.steps p.stands.made s.allowed kept words p.list

    stopped_once : (kept kept₁ : List ℕ) (x y : ℕ) → Stops keep t plan quantum most room before kept x
        → Stops keep t plan quantum most room before kept₁ y
        → (x ≡ y) × (kept ≡ kept₁)
    stopped_once kept kept₁ x y s r =
        elim (dec_lt s.count r.count) [
          | yes l ↦ absurd (not_stopped s.count s.steps x s.made s.cause r.count r.steps r.made l kept₁ r.words r.list)
          | no l ↦ elim (dec_lt r.count s.count) [
            | yes k ↦ absurd (not_stopped r.count r.steps y r.made r.cause s.count s.steps s.made k kept s.words s.list)
            | no k ↦
                let e = turns_once t plan a quantum room s.count r.count s.steps r.steps s.made r.made (omega arith) in (
                  cause_once r.steps x y (subst (λ n. For n x) e s.cause) r.cause,
                  (same_list s.steps r.steps e kept kept₁ s.words r.words s.list r.list).1,
                )
          ]
        ]

    leaves_once : (state kept state₁ kept₁ : List ℕ) (r r₁ : Played) → Leaves keep v plan quantum most room before state kept r
        → Leaves keep v plan quantum most room before state₁ kept₁ r₁ → (r ≡ r₁) × (kept ≡ kept₁)
    leaves_once state kept state₁ kept₁ (Finished n) (Finished n₁) f g =
        let e = same_list f.steps g.steps (ends_once_lem t q f.steps g.steps f.ends g.ends) kept kept₁ n n₁ f.list g.list in
        (ap Finished e.0, e.1)
    leaves_once state kept state₁ kept₁ (Finished n) (Unfinished s n₁) f g = absurd (finished_or_paused kept n f state₁ kept₁ s n₁ g)
    leaves_once state kept state₁ kept₁ (Finished n) (Stopped x) f g = absurd (finished_or_stopped kept n f kept₁ x g)
    leaves_once state kept state₁ kept₁ (Unfinished s n) (Finished n₁) f g = absurd (finished_or_paused kept₁ n₁ g state kept s n f)
    leaves_once state kept state₁ kept₁ (Unfinished s n) (Unfinished s₁ n₁) f g =
        let d = turns_once t plan a quantum room most most f.stands.steps g.stands.steps f.stands.made g.stands.made refl in
        let e = same_list f.stands.steps g.stands.steps d kept kept₁ n n₁ f.list g.list in
        let w = f.stands.state_count ∙ ap (λ j. length (saved_words v.number (after t q j).state)) d ∙ sym g.stands.state_count in
        (ap₂ Unfinished w e.0, e.1)
    leaves_once state kept state₁ kept₁ (Unfinished s n) (Stopped x) f g = absurd (paused_or_stopped state kept s n f kept₁ x g)
    leaves_once state kept state₁ kept₁ (Stopped x) (Finished n₁) f g = absurd (finished_or_stopped kept₁ n₁ g kept x f)
    leaves_once state kept state₁ kept₁ (Stopped x) (Unfinished s n₁) f g = absurd (paused_or_stopped state₁ kept₁ s n₁ g kept x f)
    leaves_once state kept state₁ kept₁ (Stopped x) (Stopped y) f g =
        let e = stopped_once kept kept₁ x y f g in
        (ap Stopped e.0, e.1)
    leaves_once state kept state₁ kept₁ (Finished n) (Refused x) f g = absurd g
    leaves_once state kept state₁ kept₁ (Unfinished s n) (Refused x) f g = absurd g
    leaves_once state kept state₁ kept₁ (Stopped y) (Refused x) f g = absurd g
    leaves_once state kept state₁ kept₁ (Refused x) r f g = absurd f

-- ---- from their opening on
module _ (keep : Keeping) (v : Survey) (plan : List ℕ) (quantum most : ℕ) (before : Lent) where
  by_opening : (left : Lent) (r : Played) → Plays keep v plan quantum most before left r
      → ((x : ℕ) × (r ≡ Refused x) × OpeningRefused v plan before left x)
      ⊎ (Opens v plan before.state × Leaves keep v plan quantum most (length before.output) before.kept left.state left.kept r)
  by_opening left (Finished n) p = inr p
  by_opening left (Unfinished s n) p = inr p
  by_opening left (Stopped x) p = inr p
  by_opening left (Refused x) p = inl (x, refl, p)

  pub played_once : (left left₁ : Lent) (r r₁ : Played) → Plays keep v plan quantum most before left r
      → Plays keep v plan quantum most before left₁ r₁
      → (r ≡ r₁) × (left.kept ≡ left₁.kept)
  played_once left left₁ r r₁ p p₁ =
      elim (by_opening left r p) [
        | inl n ↦ elim (by_opening left₁ r₁ p₁) [
          | inl m ↦
              let same : written.Refused n.0 ≡ written.Refused m.0 = sym n.2.refused ∙ m.2.refused in
              let e : n.0 ≡ m.0 = cc in
              (n.1 ∙ ap Refused e ∙ sym m.1, ap (λ (l : Lent). l.kept) (n.2.unchanged ∙ sym m.2.unchanged))
          | inr m ↦ absurd (m.0 n.0 n.2.refused)
        ]
        | inr n ↦ elim (by_opening left₁ r₁ p₁) [
          | inl m ↦ absurd (n.0 m.0 m.2.refused)
          | inr m ↦
              leaves_once keep v plan (opening_accepts v plan before.state n.0) quantum (length before.output) before.kept most
              left.state left.kept left₁.state left₁.kept r r₁ n.1 m.1
        ]
      ]
