-- A finished region has SPARQL's answer over all its tables together.
use Prim.Native.Nat.{ℕ, ◌+◌, ◌≤◌}
use native.Mathlib.Omega.{arith}
use mathlib.Core.Path.{◌≡◌, refl, sym, ◌∙◌, ap, ap₂, subst}
use mathlib.Core.Bool.{true, ◌||◌}
use mathlib.Core.List.{List, [], ◌∷◌, map}
use Rattle.sequences.specs.Sequences.{all}
use Rattle.sequences.proofs.Elements.{all_append}
use Rattle.plans.specs.Plans.{Plan, plan_of}
use Rattle.steps.specs.Steps.{after}
use Rattle.steps.proofs.Values.{is_row, after_values}
use Rattle.registers.specs.Registers.{total}
use Rattle.lists.specs.Gathering.{gathered}
use Rattle.lists.specs.Closing.{closed, list_at}
use Rattle.lists.proofs.Counts.{count, count_nil, count_append}
use Rattle.turns.specs.Turns.{is_over}
use Rattle.cuts.proofs.Accepting.{opening_accepts}
use Rattle.sparql.specs.Terms.{Mapping, same_mapping}
use Rattle.sparql.specs.Algebra.{Multiset, unions, ToList}
use Rattle.sparql.specs.Reading.{mapping_of, solutions_in, is_word}
use Rattle.sparql.specs.Answers.{AnswerOver}
use Rattle.sparql.proofs.Counts.{occurrences_count}
use Rattle.sparql.proofs.Solutions.{solutions}
use Rattle.sparql.proofs.Answered.{gathered_answers, gathered_words}
use Rattle.regions.specs.Regions.{RegionPart, region_lists, AllOpen, AllDone, RegionPremises, Makes, PartsAt, runs_to, rows_of_runs, some_over}
use Rattle.regions.specs.Answers.{region_solutions, region_readings, tables_of_parts, region_steps, RegionUnsent, AllEnd, RegionAnswer}
use Rattle.regions.proofs.Cut.{region_cut}

module _ (plan : List ℕ) where
  abbrev q : Plan
  q = plan_of plan

  -- ---- done is answered at the end of each run
  all_end : (ps : List RegionPart) (ns : List ℕ) → AllDone plan ps → PartsAt plan ps ns → AllEnd q ps ns
  all_end [] ns d a = tt
  all_end (p ∷ ps) [] d a = a
  all_end (p ∷ ps) (n ∷ ns) d a = (a.0.done.0 d.0, all_end ps ns d.1 a.1)

  one_over : (p : RegionPart) (ps : List RegionPart) (ns : List ℕ) → AllEnd q (p ∷ ps) ns → some_over (runs_to q (p ∷ ps) ns) ≡ true
  unfolding runs_to some_over
  one_over p ps [] a = absurd a
  one_over p ps (n ∷ ns) a = ap (λ o. is_over o || some_over (runs_to q ps ns)) a.0.over

  -- ---- the rows of all runs
  rows_counted : (ps : List RegionPart) (ns : List ℕ) → AllOpen plan ps → AllEnd q ps ns → (μ : Mapping)
      → count (λ b. same_mapping μ (mapping_of b)) (rows_of_runs (runs_to q ps ns)) ≡ region_solutions (tables_of_parts ps) q μ
  unfolding runs_to rows_of_runs unions
  rows_counted [] ns o e μ = count_nil (λ b. same_mapping μ (mapping_of b))
  rows_counted (p ∷ ps) [] o e μ = absurd e
  rows_counted (p ∷ ps) (n ∷ ns) o e μ =
      let a = opening_accepts p.survey plan p.state o.0 in
      let t = p.survey.tables in
      count_append (λ b. same_mapping μ (mapping_of b)) (after t q n).delivered (rows_of_runs (runs_to q ps ns))
      ∙ ap₂ ◌+◌
      (sym (occurrences_count mapping_of μ (after t q n).delivered)
      ∙ (solutions t plan q a.tables a.read a.variables n e.0.over).occurs μ)
      (rows_counted ps ns o.1 e.1 μ)

  rows_right : (ps : List RegionPart) (ns : List ℕ) → AllOpen plan ps → all is_row (rows_of_runs (runs_to q ps ns)) ≡ true
  unfolding runs_to rows_of_runs all
  rows_right [] ns o = refl
  rows_right (p ∷ ps) [] o = refl
  rows_right (p ∷ ps) (n ∷ ns) o =
      all_append is_row (after p.survey.tables q n).delivered (rows_of_runs (runs_to q ps ns))
      (after_values p.survey.tables q (opening_accepts p.survey plan p.state o.0).tables n) (rows_right ps ns o.1)

  -- ---- steps add up
  steps_most : (ps : List RegionPart) (ns : List ℕ) → PartsAt plan ps ns → region_steps plan ps ≤ total ns
  unfolding region_steps total
  steps_most [] [] a = omega arith
  steps_most [] (n ∷ ns) a = absurd a
  steps_most (p ∷ ps) [] a = absurd a
  steps_most (p ∷ ps) (n ∷ ns) a = let l = a.0.steps in let m = steps_most ps ns a.1 in omega arith

  steps_same : (ps : List RegionPart) (ns : List ℕ) → PartsAt plan ps ns → RegionUnsent plan ps → region_steps plan ps ≡ total ns
  unfolding region_steps total
  steps_same [] [] a u = refl
  steps_same [] (n ∷ ns) a u = absurd a
  steps_same (p ∷ ps) [] a u = absurd a
  steps_same (p ∷ ps) (n ∷ ns) a u = ap₂ ◌+◌ (a.0.as_many u.0) (steps_same ps ns a.1 u.1)

  -- For every region of a table at least, whose openings are served: where each of its queries is done, what is made of the turns' lists is SPARQL's
  -- answer over the solutions of all its tables.
  pub region_answered : (p : RegionPart) (ps : List RegionPart) → AllOpen plan (p ∷ ps) → RegionPremises plan (p ∷ ps) → AllDone plan (p ∷ ps)
      → (list : List ℕ) → Makes (plan_of plan).ending plan (region_lists plan (p ∷ ps)) list → RegionAnswer plan (p ∷ ps) list
  region_answered p ps o pr d list x =
      let c = region_cut plan p ps o pr list x in
      let ns = c.positions in
      let bs = rows_of_runs (runs_to q (p ∷ ps) ns) in
      let a = opening_accepts p.survey plan p.state o.0 in
      let end = all_end (p ∷ ps) ns d c.placed in
      let ts = tables_of_parts (p ∷ ps) in
      let ω = region_solutions ts q in
      let ωIn : ℕ → Multiset = λ year. unions (λ t. solutions_in t q year) ts in
      let run : ToList ω (map mapping_of bs)
      = record { occurs = λ μ. occurrences_count mapping_of μ bs ∙ rows_counted (p ∷ ps) ns o end μ } in
      let is : list ≡ closed q.ending (gathered q.ending [] bs)
      = c.made ∙ ap (λ b. list_at q.ending [] b bs) (one_over p ps ns end) in
      let right = rows_right (p ∷ ps) ns o in
      record {
        lengths = ns;
        placed = c.placed;
        whole = end;
        run = run;
        answer =
            subst (AnswerOver (region_readings ts q) bs q.ending) (sym is)
            (gathered_answers ω ωIn plan q a.read a.variables bs right run c.fits);
        words = ap (all is_word) is ∙ gathered_words ω ωIn plan q a.read a.variables bs right run c.fits;
        no_more = steps_most (p ∷ ps) ns c.placed;
        as_many = steps_same (p ∷ ps) ns c.placed;
      }
