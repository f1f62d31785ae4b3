-- After any part of a region, what is made of its turns' lists is the list of its runs so far.
use Prim.Native.Nat.{ℕ}
use native.Mathlib.Omega.{arith}
use mathlib.Core.Path.{◌≡◌, refl, sym, ◌∙◌, ap, ap₂, subst}
use mathlib.Core.Bool.{Bool, true, false, ◌||◌}
use mathlib.Core.Logic.{inl, inr}
use mathlib.Core.List.{List, [], ◌∷◌, ◌++◌, map, flatten, foldl, append_assoc, append-nil, Permᴰ}
use lib.ListN.{length}
use Rattle.words.specs.Bindings.{Bindings}
use Rattle.sequences.specs.Sequences.{all}
use Rattle.sequences.proofs.Each.{Each}
use Rattle.sequences.proofs.Numbers.{numbers_none}
use Rattle.plans.specs.Endings.{Ending, rows, top, group, registers}
use Rattle.plans.specs.Plans.{plan_of}
use Rattle.plans.proofs.Bounds.{EndingForm}
use Rattle.registers.specs.Registers.{register_count}
use Rattle.lists.specs.Groups.{Group, keys_before, together, add_all_by, add_groups}
use Rattle.lists.specs.Gathering.{taken_into, groups_in, group_fits, rows_fit}
use Rattle.lists.specs.Closing.{list_at}
use Rattle.lists.proofs.Adding.{add_all_append}
use Rattle.lists.proofs.Closing.{registers_at}
use Rattle.lists.proofs.ClosedGroups.{closed_fits}
use Rattle.lists.proofs.GroupWords.{groups_in_words}
use Rattle.lists.proofs.Wrapping.{wrapped_all}
use Rattle.lists.proofs.OneRow.{gathered_nil}
use Rattle.lists.proofs.RegisterLists.{length_registers}
use Rattle.cuts.proofs.Accepting.{opening_accepts, accepted_form}
use Rattle.merge_orders.specs.Ways.{turns_along}
use Rattle.merge_orders.proofs.InOrder.{records_all}
use Rattle.merge_orders.proofs.RegisterWays as registering
use Rattle.merge_orders.proofs.Once.{none_left, top_once, top_grouped, group_once, group_fits_lem, register_once}
use Rattle.regions.specs.Regions.{RegionPart, region_lists, AllOpen, RegionPremises, Makes, RegionCut}
use Rattle.regions.proofs.ClosedLists.{groups_at, groups_both, words_at, have_at}
use Rattle.regions.proofs.Stints.{Stint, stint_list, stint_lists, all_came, some_ended, AllSent, taken_in_order}
use Rattle.regions.proofs.Runs.{region}

-- ---- totals
module _ (vs : List ℕ) (m : ℕ) where
  abbrev stint_groups : Stint → List Group
  stint_groups s = groups_at vs m s.ended s.came

  at_fits : (d : Bool) (bs : List Bindings) → all group_fits (groups_at vs m d bs) ≡ rows_fit (group vs m) bs
  at_fits true bs = closed_fits vs m bs
  at_fits false bs = refl

  -- the records of a turn's list, which fit, are read back
  read_back : (s : Stint) → rows_fit (group vs m) s.came ≡ true → groups_in vs (stint_list (group vs m) s) ≡ stint_groups s
  read_back s f =
      ap (groups_in vs) (words_at vs m s.sent s.ended s.came)
      ∙ groups_in_words vs (stint_groups s) (have_at vs m s.ended s.came)
      ∙ wrapped_all (stint_groups s) (at_fits s.ended s.came ∙ f)

  all_back : (ss : List Stint) → Each (λ (s : Stint). rows_fit (group vs m) s.came ≡ true) ss
      → records_all vs m (stint_lists (group vs m) ss) ≡ flatten (map stint_groups ss)
  unfolding flatten
  all_back [] f = refl
  all_back (s ∷ ss) f = ap₂ ◌++◌ (read_back s f.0) (all_back ss f.1)

  -- added up
  added : (c : Bool) (xs : List Bindings) (ss : List Stint)
      → add_groups (groups_at vs m c xs) (flatten (map stint_groups ss)) ≡ groups_at vs m (c || some_ended ss) (xs ++ all_came ss)
  unfolding flatten add_all_by some_ended all_came
  added c xs [] = ap₂ (groups_at vs m) (sym (or_none c)) (sym (append-nil xs))
    where
      or_none : (a : Bool) → a || false ≡ a
      or_none true = refl
      or_none false = refl
  added c xs (s ∷ ss) =
      add_all_append keys_before together (groups_at vs m c xs) (stint_groups s) (flatten (map stint_groups ss))
      ∙ ap (λ gs. add_groups gs (flatten (map stint_groups ss))) (groups_both vs m c s.ended xs s.came)
      ∙ added (c || s.ended) (xs ++ s.came) ss
      ∙ ap₂ (groups_at vs m) (or_assoc c s.ended (some_ended ss)) (append_assoc xs s.came (all_came ss))
    where
      or_assoc : (a b d : Bool) → (a || b) || d ≡ a || (b || d)
      or_assoc true b d = refl
      or_assoc false b d = refl

  pub totals_are : (ss : List Stint) → Each (λ (s : Stint). rows_fit (group vs m) s.came ≡ true) ss
      → all group_fits (add_groups [] (records_all vs m (stint_lists (group vs m) ss))) ≡ rows_fit (group vs m) (all_came ss)
  unfolding add_all_by
  totals_are ss f =
      ap (λ gs. all group_fits (add_groups [] gs)) (all_back ss f)
      ∙ ap (all group_fits) (added false [] ss)
      ∙ at_fits (some_ended ss) (all_came ss)

-- ---- by ending
module _ (plan : List ℕ) (e : Ending) (is : (plan_of plan).ending ≡ e) (form : EndingForm e) where
  -- in sequence, one behind the other. No turns make no list, which is that of no rows but for registers
  in_sequence : ((v : ℕ) → ¬ (e ≡ registers v)) → (ss : List Stint) → AllSent e [] ss
      → foldl (taken_into e) [] (stint_lists e ss) ≡ list_at e [] (some_ended ss) (all_came ss)
  unfolding some_ended all_came
  in_sequence n [] a = sym (gathered_nil e n [])
  in_sequence n (s ∷ ss) a = taken_in_order e form s ss a

joined : (vs kept : List ℕ) (ls : List (List ℕ)) → foldl (taken_into (rows vs)) kept ls ≡ kept ++ flatten ls
unfolding flatten
joined vs kept [] = sym (append-nil kept)
joined vs kept (l ∷ ls) = joined vs (kept ++ l) ls ∙ append_assoc kept l (flatten ls)

all_registers : (v : ℕ) (ss : List Stint) → Each (λ l. length l ≡ register_count) (stint_lists (registers v) ss)
all_registers v [] = tt
all_registers v (s ∷ ss) = (
  ap length (registers_at v s.sent s.ended s.came) ∙ length_registers v s.sent s.came,
  all_registers v ss,
)

registers_made : (plan : List ℕ) (v : ℕ) → (plan_of plan).ending ≡ registers v → EndingForm (registers v) → (ss : List Stint)
    → AllSent (registers v) [] ss → (list : List ℕ) → Makes (registers v) plan (stint_lists (registers v) ss) list
    → list ≡ list_at (registers v) [] (some_ended ss) (all_came ss)
registers_made plan v is form [] sent list (w, p) =
    absurd (registering.some_turn plan [] v is w list p.0 p.2 (none_left (subst (λ l. Permᴰ l (turns_along w)) (sym numbers_none) p.1)))
registers_made plan v is form (s ∷ ss) sent list (w, p) =
    register_once plan (stint_lists (registers v) (s ∷ ss)) v is (all_registers v (s ∷ ss)) w p.0 p.1 list p.2
    ∙ taken_in_order (registers v) form s ss sent

made : (plan : List ℕ) (e : Ending) → (plan_of plan).ending ≡ e → EndingForm e → (ss : List Stint) → AllSent e [] ss
    → (list : List ℕ) → Makes e plan (stint_lists e ss) list → list ≡ list_at e [] (some_ended ss) (all_came ss)
made plan (rows vs) is form ss sent list x =
    x ∙ sym (joined vs [] (stint_lists (rows vs) ss)) ∙ in_sequence plan (rows vs) is form (λ v e. let z : ◌≡◌ {A = ℕ} 0 1 = cc in omega arith) ss sent
made plan (top k vs keys) is form ss sent list (w, (m, g, inl p)) =
    top_grouped plan (stint_lists (top k vs keys) ss) k vs keys is form.row.least w m p list g
    ∙ in_sequence plan (top k vs keys) is form (λ v e. let z : ◌≡◌ {A = ℕ} 0 1 = cc in omega arith) ss sent
made plan (top k vs keys) is form ss sent list (w, (m, g, inr p)) =
    top_once plan (stint_lists (top k vs keys) ss) k vs keys is form.row.least p.1 w m p.0 list g
    ∙ in_sequence plan (top k vs keys) is form (λ v e. let z : ◌≡◌ {A = ℕ} 0 1 = cc in omega arith) ss sent
made plan (group vs m) is form ss sent list (w, p) =
    group_once plan (stint_lists (group vs m) ss) vs m is w p.0 p.1 list p.2
    ∙ in_sequence plan (group vs m) is form (λ v e. let z : ◌≡◌ {A = ℕ} 0 1 = cc in omega arith) ss sent
made plan (registers v) is form ss sent list x = registers_made plan v is form ss sent list x

fits : (plan : List ℕ) (e : Ending) → (plan_of plan).ending ≡ e → (ss : List Stint) → Each (λ (s : Stint). rows_fit e s.came ≡ true) ss
    → (list : List ℕ) → Makes e plan (stint_lists e ss) list → rows_fit e (all_came ss) ≡ true
fits plan (rows vs) is ss f list x = refl
fits plan (top k vs keys) is ss f list x = refl
fits plan (group vs m) is ss f list (w, p) =
    sym (totals_are vs m ss f) ∙ group_fits_lem plan (stint_lists (group vs m) ss) vs m is w p.0 p.1 list p.2
fits plan (registers v) is ss f list x = refl

-- For every region of a table at least, whose openings are served, and whatever happened to its tables, in whatever mixture: under the premise on
-- thresholds what is made of the turns' lists so far is the list of the runs so far.
pub region_cut : (plan : List ℕ) (p : RegionPart) (ps : List RegionPart) → AllOpen plan (p ∷ ps) → RegionPremises plan (p ∷ ps)
    → (list : List ℕ) → Makes (plan_of plan).ending plan (region_lists plan (p ∷ ps)) list → RegionCut plan (p ∷ ps) list
region_cut plan p ps o pr list x =
    let e = (plan_of plan).ending in
    let r = region plan [] (p ∷ ps) o pr in
    let form = (accepted_form p.survey.tables plan (opening_accepts p.survey plan p.state o.0)).ending in
    let y = subst (λ l. Makes e plan l list) (sym r.lists) x in
    record {
      positions = r.positions;
      placed = r.placed;
      made = made plan e refl form r.stints r.sent list y ∙ ap₂ (list_at e []) r.ended r.came;
      fits = ap (rows_fit e) (sym r.came) ∙ fits plan e refl r.stints r.fit list y;
    }
