-- Tables split by subject answer as the whole: for a plan whose branches have one subject variable each, every solution is one of a single part.
use Prim.Native.Nat.{ℕ, suc, ◌+◌, ◌≤◌, ◌<◌}
use native.Mathlib.Omega.{arith}
use mathlib.Core.Path.{◌≡◌, refl, sym, ◌∙◌, ap, ap₂, subst}
use mathlib.Core.Bool.{Bool, true, false, cond, ◌&&◌}
use mathlib.Core.Option.{Option, none, some}
use mathlib.Core.List.{List, [], ◌∷◌}
use lib.Dec.{eqb}
use lib.ListN.{length}
use borrow.Author.Tests.{eqb-true, eqb-false, eq-eqb, ne_eqb}
use Rattle.words.specs.Bindings.{Bindings}
use Rattle.words.proofs.Testing.{some_injective}
use Rattle.sequences.specs.Sequences.{all}
use Rattle.sequences.proofs.Elements.{all_head}
use Rattle.sequences.proofs.Booleans.{absurd_true, and_left, and_right}
use Rattle.tables.specs.Tables.{Tables, section}
use Rattle.plans.specs.Branches.{Branch}
use Rattle.plans.specs.Endings.{Ending}
use Rattle.plans.specs.Plans.{Plan}
use Rattle.sparql.specs.Terms.{RdfTerm, Triple, Graph, Mapping, lookup}
use Rattle.sparql.specs.Expressions.{PatternTerm, variable, constant, value_under, evaluate, is_effective}
use Rattle.sparql.specs.Algebra.{Multiset, TriplePattern, is_variable_named, triple_of, instance_under, in_graph, domain_is, unions}
use Rattle.sparql.specs.Years.{years_read}
use Rattle.sparql.specs.Reading.{patterns_of, expression_of, graph_of, branch_solutions, solutions_in, solutions_of}
use Rattle.sparql.specs.Answers.{read_solutions, read_by_number, AnswerOver, Answer}
use Rattle.regions.specs.Answers.{region_solutions, region_readings}
use Rattle.region_splits.specs.Splits.{is_subject, one_subject, separable, SplitFrom, SplitBySubject, ReadAlike}

-- ---- unions of unions, the other way round
module _ {A B : Type 0} (f : A → B → Multiset) (μ : Mapping) where
  none_of_each : (xs : List A) → unions (λ x. unions (f x) []) xs μ ≡ 0
  unfolding unions
  none_of_each [] = refl
  none_of_each (x ∷ xs) = let h = none_of_each xs in omega arith

  one_of_each : (y : B) (ys : List B) (xs : List A)
      → unions (λ x. unions (f x) (y ∷ ys)) xs μ ≡ unions (λ x. f x y) xs μ + unions (λ x. unions (f x) ys) xs μ
  unfolding unions
  one_of_each y ys [] = refl
  one_of_each y ys (x ∷ xs) = let h = one_of_each y ys xs in omega arith

  exchanged : (xs : List A) (ys : List B) → unions (λ x. unions (f x) ys) xs μ ≡ unions (λ y. unions (λ x. f x y) xs) ys μ
  unfolding unions
  exchanged xs [] = none_of_each xs
  exchanged xs (y ∷ ys) = one_of_each y ys xs ∙ ap (λ n. unions (λ x. f x y) xs μ + n) (exchanged xs ys)

-- ---- one pattern, whose subject is a variable
subject_value : (μ : Mapping) (v : ℕ) (x : PatternTerm) → is_variable_named v x ≡ true → value_under μ x ≡ lookup μ v
subject_value μ v (variable w) e = ap (lookup μ) (sym (eqb-true v w e))
subject_value μ v (constant y) e = absurd_true e refl

module _ (g whole : Graph) (k : RdfTerm → Bool) (part : (x : Triple) → g x ≡ whole x && k x.subject) (x : RdfTerm) where
  in_part : (a b c : Option RdfTerm) → a ≡ some x → in_graph g (triple_of a b c) ≡ in_graph whole (triple_of a b c) && k x
  in_part none b c e = refl
  in_part (some y) none c e = refl
  in_part (some y) (some z) none e = refl
  in_part (some y) (some z) (some u) e =
      let t : Triple = record { subject = y; predicate = z; object = u } in
      part t ∙ ap (λ w. whole t && k w) (some_injective e)

  and-true : (b : Bool) → b && true ≡ b
  and-true true = refl
  and-true false = refl

  and-false : (b : Bool) → b && false ≡ false
  and-false true = refl
  and-false false = refl

  module _ (μ : Mapping) (v : ℕ) (bound : lookup μ v ≡ some x) where
    abbrev inside : Graph → TriplePattern → Bool
    inside h p = in_graph h (instance_under μ p)

    abbrev named : TriplePattern → Bool
    named p = is_variable_named v p.subject

    pattern_in : (p : TriplePattern) → named p ≡ true → inside g p ≡ inside whole p && k x
    pattern_in p e =
        in_part (value_under μ p.subject) (value_under μ p.predicate) (value_under μ p.object) (subject_value μ v p.subject e ∙ bound)

    -- where the subject is at home, the part has what the whole has; elsewhere it has nothing
    all_home : k x ≡ true → (ps : List TriplePattern) → all named ps ≡ true → all (inside g) ps ≡ all (inside whole) ps
    unfolding all
    all_home h [] n = refl
    all_home h (p ∷ ps) n =
        ap₂ ◌&&◌ (pattern_in p (and_left (named p) (all named ps) n) ∙ ap (λ b. inside whole p && b) h ∙ and-true (inside whole p))
        (all_home h ps (and_right (named p) (all named ps) n))

    none_away : k x ≡ false → (p : TriplePattern) (ps : List TriplePattern) → all named (p ∷ ps) ≡ true → all (inside g) (p ∷ ps) ≡ false
    unfolding all
    none_away h p ps n =
        ap (λ b. b && all (inside g) ps)
        (pattern_in p (and_left (named p) (all named ps) n) ∙ ap (λ b. inside whole p && b) h ∙ and-false (inside whole p))

-- without a value of the subject there is no solution
module _ (g : Graph) (μ : Mapping) (v : ℕ) (free : lookup μ v ≡ none) where
  no_instance : (a b c : Option RdfTerm) → a ≡ none → in_graph g (triple_of a b c) ≡ false
  no_instance none b c e = refl
  no_instance (some y) b c e = absurd (let z : ◌≡◌ {A = ℕ} 0 1 = cc in omega arith)

  no_solution : (p : TriplePattern) (ps : List TriplePattern) → is_variable_named v p.subject ≡ true
      → all (λ r. in_graph g (instance_under μ r)) (p ∷ ps) ≡ false
  unfolding all
  no_solution p ps n =
      ap (λ b. b && all (λ r. in_graph g (instance_under μ r)) ps)
      (no_instance (value_under μ p.subject) (value_under μ p.predicate) (value_under μ p.object) (subject_value μ v p.subject n ∙ free))

-- ---- a branch, over all parts
module _ (whole : Tables) (year : ℕ) (home : RdfTerm → ℕ) (b : Branch) (μ : Mapping) where
  abbrev ps : List TriplePattern
  ps = patterns_of b.terms

  abbrev found : Graph → ℕ
  found g = branch_solutions g b μ

  abbrev among : List Tables → ℕ
  among ts = unions (λ t. branch_solutions (graph_of (section t year)) b) ts μ

  -- as many as the patterns' instances say
  by_instances : (g h : Graph) → all (λ r. in_graph g (instance_under μ r)) ps ≡ all (λ r. in_graph h (instance_under μ r)) ps → found g ≡ found h
  by_instances g h e = ap (λ c. cond (is_effective (evaluate μ (expression_of b.condition))) (cond (domain_is ps μ && c) 1 0) 0) e

  nothing_found : (g : Graph) → all (λ r. in_graph g (instance_under μ r)) ps ≡ false → found g ≡ 0
  nothing_found g e =
      ap (λ c. cond (is_effective (evaluate μ (expression_of b.condition))) (cond (domain_is ps μ && c) 1 0) 0) e
      ∙ none (is_effective (evaluate μ (expression_of b.condition))) (domain_is ps μ)
    where
      none : (c d : Bool) → ◌≡◌ {A = ℕ} (cond c (cond (d && false) 1 0) 0) 0
      none true true = refl
      none true false = refl
      none false d = refl

  -- no part has any where none has an instance
  nowhere : ((g : Graph) → found g ≡ 0) → (ts : List Tables) → among ts ≡ 0
  unfolding unions
  nowhere n [] = refl
  nowhere n (t ∷ ts) = ap₂ ◌+◌ (n (graph_of (section t year))) (nowhere n ts)

  module _ (x : RdfTerm)
      (here : (g : Graph) → ((y : Triple) → g y ≡ graph_of (section whole year) y && eqb (home y.subject) (home x))
      → found g ≡ found (graph_of (section whole year)))
      (away : (g : Graph) (i : ℕ) → ((y : Triple) → g y ≡ graph_of (section whole year) y && eqb (home y.subject) i)
      → eqb (home x) i ≡ false → found g ≡ 0) where
    -- behind the part where the subject is at home there are none
    behind : (i : ℕ) (ts : List Tables) → SplitFrom home whole i ts → home x < i → among ts ≡ 0
    unfolding unions
    behind i [] s l = refl
    behind i (t ∷ ts) s l =
        ap₂ ◌+◌ (away (graph_of (section t year)) i (s.0 year) (ne_eqb (home x) i (λ e. omega arith))) (behind (suc i) ts s.1 (omega arith))

    -- and all of them are in that one
    at_home : (i : ℕ) (ts : List Tables) → SplitFrom home whole i ts → i ≤ home x → home x < i + length ts
        → among ts ≡ found (graph_of (section whole year))
    unfolding unions
    at_home i [] s l m = absurd (omega arith)
    at_home i (t ∷ ts) s l m = go (eqb (home x) i) refl (λ k. at_home (suc i) ts s.1 k (omega arith))
      where
        go : (c : Bool) → eqb (home x) i ≡ c → (suc i ≤ home x → among ts ≡ found (graph_of (section whole year)))
            → found (graph_of (section t year)) + among ts ≡ found (graph_of (section whole year))
        go true e ih =
            let is = eqb-true (home x) i e in
            let p = here (graph_of (section t year)) (subst (λ n. (y : Triple) → graph_of (section t year) y ≡ graph_of (section whole year) y
            && eqb (home y.subject) n) (sym is) (s.0 year)) in
            let q = behind (suc i) ts s.1 (omega arith) in
            omega arith
        go false e ih =
            let n : ¬ (home x ≡ i) = eqb-false (home x) i e in
            let p = away (graph_of (section t year)) i (s.0 year) e in
            let q = ih (omega arith) in
            omega arith

-- ---- a branch with one subject variable
module _ (whole : Tables) (parts : List Tables) (s : SplitBySubject whole parts) (year : ℕ) where
  branch_split : (b : Branch) → one_subject (patterns_of b.terms) ≡ true → (μ : Mapping)
      → unions (λ t. branch_solutions (graph_of (section t year)) b) parts μ ≡ branch_solutions (graph_of (section whole year)) b μ
  branch_split b one μ = by_patterns (patterns_of b.terms) refl one
    where
      with_subject : (v : ℕ) (p : TriplePattern) (rs : List TriplePattern) → patterns_of b.terms ≡ p ∷ rs
          → all (λ (r : TriplePattern). is_variable_named v r.subject) (p ∷ rs) ≡ true
          → (o : Option RdfTerm) → lookup μ v ≡ o
          → unions (λ t. branch_solutions (graph_of (section t year)) b) parts μ ≡ branch_solutions (graph_of (section whole year)) b μ
      with_subject v p rs e n none free =
          let none_found : (g : Graph) → branch_solutions g b μ ≡ 0
          = λ g. nothing_found whole year s.home b μ g
          (ap (all (λ r. in_graph g (instance_under μ r))) e
          ∙ no_solution g μ v free p rs (all_head (λ (r : TriplePattern). is_variable_named v r.subject) p rs n)) in
          nowhere whole year s.home b μ none_found parts ∙ sym (none_found (graph_of (section whole year)))
      with_subject v p rs e n (some x) bound =
          at_home whole year s.home b μ x
          (λ g part.
          by_instances whole year s.home b μ g (graph_of (section whole year))
          (ap (all (λ r. in_graph g (instance_under μ r))) e
          ∙ all_home g (graph_of (section whole year)) (λ y. eqb (s.home y) (s.home x)) part x μ v bound (eq-eqb (s.home x) (s.home x) refl) (p ∷ rs) n
          ∙ sym (ap (all (λ r. in_graph (graph_of (section whole year)) (instance_under μ r))) e)))
          (λ g i part h.
          nothing_found whole year s.home b μ g
          (ap (all (λ r. in_graph g (instance_under μ r))) e
          ∙ none_away g (graph_of (section whole year)) (λ y. eqb (s.home y) i) part x μ v bound h p rs n))
          0 parts s.each (omega arith) (omega (arith, s.there x))

      by_subject : (p : TriplePattern) (rs : List TriplePattern) → patterns_of b.terms ≡ p ∷ rs
          → (y : PatternTerm) → is_subject y (p ∷ rs) ≡ true
          → unions (λ t. branch_solutions (graph_of (section t year)) b) parts μ ≡ branch_solutions (graph_of (section whole year)) b μ
      by_subject p rs e (variable v) n = with_subject v p rs e n (lookup μ v) refl
      by_subject p rs e (constant y) n = absurd_true n refl

      by_patterns : (rs : List TriplePattern) → patterns_of b.terms ≡ rs → one_subject rs ≡ true
          → unions (λ t. branch_solutions (graph_of (section t year)) b) parts μ ≡ branch_solutions (graph_of (section whole year)) b μ
      by_patterns [] e n = absurd_true n refl
      by_patterns (p ∷ rs) e n = by_subject p rs e p.subject n

  -- a plan's branches
  branches_split : (bs : List Branch) → all (λ (b : Branch). one_subject (patterns_of b.terms)) bs ≡ true → (μ : Mapping)
      → unions (λ b. unions (λ t. branch_solutions (graph_of (section t year)) b) parts) bs μ
      ≡ unions (branch_solutions (graph_of (section whole year))) bs μ
  unfolding unions all
  branches_split [] n μ = refl
  branches_split (b ∷ bs) n μ =
      ap₂ ◌+◌ (branch_split b (and_left (one_subject (patterns_of b.terms)) _ n) μ)
      (branches_split bs (and_right (one_subject (patterns_of b.terms)) _ n) μ)

-- over each year's graph the solutions of the parts, together, are those of the whole
pub separable_in : (whole : Tables) (parts : List Tables) → SplitBySubject whole parts → (q : Plan) → separable q ≡ true
    → (year : ℕ) (μ : Mapping) → unions (λ t. solutions_in t q year) parts μ ≡ solutions_in whole q year μ
separable_in whole parts s q n year μ =
    exchanged (λ t. branch_solutions (graph_of (section t year))) μ parts q.branches ∙ branches_split whole parts s year q.branches n μ

-- ---- over the years that are read
module _ (whole : Tables) (q : Plan) where
  abbrev years : List ℕ
  years = years_read whole.rows q.years

  alike : (parts : List Tables) → ReadAlike whole parts q → (μ : Mapping)
      → region_solutions parts q μ ≡ unions (λ t. unions (solutions_in t q) years) parts μ
  unfolding unions
  alike [] a μ = refl
  alike (t ∷ ts) a μ = ap₂ ◌+◌ (ap (λ l. unions (solutions_in t q) l μ) a.0) (alike ts a.1 μ)

  module _ (parts : List Tables) (s : SplitBySubject whole parts) (n : separable q ≡ true) where
    over_years : (ys : List ℕ) (μ : Mapping) → unions (λ y. unions (λ t. solutions_in t q y) parts) ys μ ≡ unions (solutions_in whole q) ys μ
    unfolding unions
    over_years [] μ = refl
    over_years (y ∷ ys) μ = ap₂ ◌+◌ (separable_in whole parts s q n y μ) (over_years ys μ)

    -- the parts, as a region, have the solutions of the whole
    pub separable_solutions : ReadAlike whole parts q → (μ : Mapping) → region_solutions parts q μ ≡ solutions_of whole q μ
    separable_solutions a μ = alike parts a μ ∙ exchanged (λ t. solutions_in t q) μ parts years ∙ over_years years μ

    separable_readings : ReadAlike whole parts q → region_readings parts q ≡ read_by_number whole q
    separable_readings a = λ i. read_solutions (λ μ. separable_solutions a μ i) (λ year μ. separable_in whole parts s q n year μ i)

    -- and an answer over the parts is one over the whole, its rows and equals in the sequence of the parts
    pub separable_answers : ReadAlike whole parts q → (delivered : List Bindings) (e : Ending) (list : List ℕ)
        → AnswerOver (region_readings parts q) delivered e list → Answer whole q delivered e list
    separable_answers a delivered e list x = subst (λ r. AnswerOver r delivered e list) (separable_readings a) x
