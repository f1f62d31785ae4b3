-- Of the terms that there were before numbers had a sign, the groups of some rows are the former ones, with their sums as integers.
use Prim.Native.Nat.{ℕ, ◌+◌, ◌<◌}
use native.Mathlib.Omega.{arith}
use mathlib.Core.Path.{◌≡◌, refl, sym, ◌∙◌, ap, ap₂}
use mathlib.Core.Logic.{◌⊎◌, inl, inr}
use mathlib.Core.Bool.{Bool, true, false, cond, ◌&&◌}
use mathlib.Core.List.{List, [], ◌∷◌, ◌++◌, map, map-map}
use lib.Dec.{eqb, ltb, leb}
use lib.IntN.{pos}
use borrow.Author.Tests.{eqb-true, eq-eqb, ne_eqb, ltb-true}
use Rattle.words.specs.Words.{term_kind, term_value, number_kind, is_number, is_variable, number_value, unbound}
use Rattle.words.specs.Former.{Former, former_rank}
use Rattle.words.specs.Bindings.{Bindings, value_of}
use Rattle.sequences.specs.Sequences.{all}
use Rattle.sequences.proofs.Booleans.{Decided, yes, no, decided, and_right}
use Rattle.sequences.proofs.Elements.{all_head, all_tail}
use Rattle.sequences.proofs.Each.{Each}
use Rattle.sequences.proofs.EachMore.{each_weaken}
use Rattle.words.proofs.Former.{value_as_before}
use Rattle.lists.specs.Rows.{project}
use Rattle.lists.specs.Sums.{long_values, half_longs}
use Rattle.lists.specs.Groups.{Group, of_row, lesser, greater, together, keys_before, add_all_by, groups_of, group_words, two_words}
use Rattle.lists.specs.Gathering.{group_fits}
use Rattle.lists.specs.Former.{former_keys_before, Delivered}
use Rattle.lists.proofs.AddingKeeps.{add_all_map}
use Rattle.lists.proofs.Former.{groups_as_before, lesser_as_before, greater_as_before, words_as_before}
use Rattle.former.specs.Lists.{FormerGroup, former_of_value, former_lesser, former_greater, former_together, former_groups, former_words, former_group_fits}
use Rattle.former.proofs.Runs.{was_delivered, delivered_was, value_was}

-- ---- least and greatest: unbound, or a number that there was
abbrev Extreme : ℕ → Type 0
Extreme w = (w ≡ unbound) ⊎ ((is_number w ≡ true) × Former w)

-- a number is not unbound
no_number : (w : ℕ) → is_number w ≡ true → eqb w unbound ≡ false
no_number w e = ne_eqb w unbound (λ p. omega (arith, eqb-true (term_kind w) number_kind e))

module _ (a b : ℕ) where
  lesser_was : Extreme a → Extreme b → lesser a b ≡ former_lesser a b
  unfolding lesser
  lesser_was (inl e) q = rw (eq-eqb a unbound e)
  lesser_was (inr p) (inl e) = rw (no_number a p.0, eq-eqb b unbound e)
  lesser_was (inr p) (inr q) =
      lesser_as_before a b p.0 q.0 p.1 q.1 ∙ (rw (no_number a p.0, no_number b q.0))

  greater_was : Extreme a → Extreme b → greater a b ≡ former_greater a b
  unfolding greater
  greater_was (inl e) q = rw (eq-eqb a unbound e)
  greater_was (inr p) (inl e) = rw (no_number a p.0, eq-eqb b unbound e)
  greater_was (inr p) (inr q) =
      greater_as_before a b p.0 q.0 p.1 q.1 ∙ (rw (no_number a p.0, no_number b q.0))

  -- one of the two
  one_of : (P : ℕ → Type 0) → P a → P b → (x y z : Bool)
      → P (cond x b (cond y a (cond z a b))) × P (cond x b (cond y a (cond z b a)))
  one_of P p q true y z = (q, q)
  one_of P p q false true z = (p, p)
  one_of P p q false false true = (p, q)
  one_of P p q false false false = (q, p)

-- ---- records of terms that there were
pub record Was (g : FormerGroup) : Type 0 where
  pub keys : Each Former g.keys
  pub least : Extreme g.least
  pub greatest : Extreme g.greatest

abbrev WasGroup : Type 0
WasGroup = (g : FormerGroup) × Was g

-- the record as it is now
abbrev pub as_now : FormerGroup → Group
as_now g = record { keys = g.keys; rows = g.rows; numbers = g.numbers; sum = pos g.sum; least = g.least; greatest = g.greatest }

were : WasGroup → WasGroup → WasGroup
were x y =
    let g = x.0 in
    let h = y.0 in
    let l = one_of g.least h.least Extreme x.1.least y.1.least (eqb g.least unbound) (eqb h.least unbound)
    (leb (former_rank g.least) (former_rank h.least)) in
    let r = one_of g.greatest h.greatest Extreme x.1.greatest y.1.greatest (eqb g.greatest unbound) (eqb h.greatest unbound)
    (leb (former_rank g.greatest) (former_rank h.greatest)) in
    (former_together g h, record { keys = x.1.keys; least = l.0; greatest = r.1 })

abbrev were_before : WasGroup → WasGroup → Bool
were_before x y = former_keys_before x.0.keys y.0.keys

now_together : (x y : WasGroup) → as_now (were x y).0 ≡ together (as_now x.0) (as_now y.0)
unfolding were
now_together x y =
    let l = lesser_was x.0.least y.0.least x.1.least y.1.least in
    let g = greater_was x.0.greatest y.0.greatest x.1.greatest y.1.greatest in
    λ i. record {
      keys = x.0.keys;
      rows = x.0.rows + y.0.rows;
      numbers = x.0.numbers + y.0.numbers;
      sum = pos (x.0.sum + y.0.sum);
      least = sym l i;
      greatest = sym g i;
    }

-- ---- the records of some rows
pub row_was : (ws : List ℕ) → all is_variable ws ≡ true → (b : Bindings) → all was_delivered b ≡ true → Each Delivered (project ws b)
row_was [] v b h = tt
row_was (w ∷ ws) v b h =
    (delivered_was (value_of b w) (value_was b w (all_head is_variable w ws v) h), row_was ws (all_tail is_variable w ws v) b h)

module _ (vs : List ℕ) (m : ℕ) (variables : all is_variable vs ≡ true) (measured : is_variable m ≡ true) where
  abbrev former_of_row : Bindings → FormerGroup
  former_of_row b = former_of_value (project vs b) (value_of b m)

  of_row_was : (b : Bindings) → all was_delivered b ≡ true → Was (former_of_row b)
  of_row_was b h =
      let x = extreme (decided (is_number (value_of b m))) in
      record { keys = each_weaken (λ w d. d.0) (project vs b) (row_was vs variables b h); least = x; greatest = x }
    where
      extreme : Decided (is_number (value_of b m)) → Extreme (cond (is_number (value_of b m)) (value_of b m) unbound)
      extreme (yes e) = rw e (inr (e, (delivered_was (value_of b m) (value_was b m measured h)).0))
      extreme (no e) = rw e (inl refl)

  now_row : (b : Bindings) → all was_delivered b ≡ true → as_now (former_of_row b) ≡ of_row vs m b
  now_row b h = ap (λ s. record {
    keys = project vs b;
    rows = 1;
    numbers = cond (is_number x) 1 0;
    sum = s;
    least = cond (is_number x) x unbound;
    greatest = cond (is_number x) x unbound;
  }) sum
    where
      x : ℕ
      x = value_of b m

      sum : pos (cond (is_number x) (term_value x) 0) ≡ cond (is_number x) (number_value x) (pos 0)
      sum = elim (decided (is_number x)) [
        | yes e ↦ rw e (sym (value_as_before x (eqb-true (term_kind x) number_kind e) (delivered_was x (value_was b m measured h)).0))
        | no e ↦ rw e
      ]

  wrapped : (bs : List Bindings) → Each (λ b. all was_delivered b ≡ true) bs → List WasGroup
  wrapped [] h = []
  wrapped (b ∷ bs) h = (former_of_row b, of_row_was b h.0) ∷ wrapped bs h.1

  wrapped_former : (bs : List Bindings) (h : Each (λ b. all was_delivered b ≡ true) bs) → map (λ x. x.0) (wrapped bs h) ≡ map former_of_row bs
  unfolding wrapped
  wrapped_former [] h = refl
  wrapped_former (b ∷ bs) h = ap (λ l. former_of_row b ∷ l) (wrapped_former bs h.1)

  wrapped_now : (bs : List Bindings) (h : Each (λ b. all was_delivered b ≡ true) bs) → map (λ x. as_now x.0) (wrapped bs h) ≡ map (of_row vs m) bs
  unfolding wrapped
  wrapped_now [] h = refl
  wrapped_now (b ∷ bs) h = ap₂ ◌∷◌ (now_row b h.0) (wrapped_now bs h.1)

  pub groups_were : (bs : List Bindings) → Each (λ b. all was_delivered b ≡ true) bs → groups_of vs m bs ≡ map as_now (former_groups vs m bs)
  unfolding were
  groups_were bs h =
      let ws = wrapped bs h in
      ap (add_all_by keys_before together []) (sym (wrapped_now bs h))
      ∙ sym (add_all_map (λ x. as_now x.0) were_before keys_before (λ x y. groups_as_before (as_now x.0) (as_now y.0) x.1.keys y.1.keys)
      were together now_together [] ws)
      ∙ sym (map-map as_now (λ x. x.0) (add_all_by were_before were [] ws))
      ∙ ap (map as_now)
      (add_all_map (λ x. x.0) were_before (λ g k. former_keys_before g.keys k.keys) (λ x y. refl) were former_together (λ x y. refl) [] ws
      ∙ ap (add_all_by (λ g k. former_keys_before g.keys k.keys) former_together []) (wrapped_former bs h))

-- ---- their words, and whether they fit
pub now_fits : (gs : List FormerGroup) → all group_fits (map as_now gs) ≡ all former_group_fits gs
unfolding all
now_fits [] = refl
now_fits (g ∷ gs) = ap (λ b. former_group_fits g && b) (now_fits gs)

now_words : (g : FormerGroup) → g.sum < half_longs → group_words (as_now g) ≡ former_words g
unfolding group_words former_words
now_words g l = ap (λ s. g.keys ++ (two_words g.rows ++ (two_words g.numbers ++ (s ++ (g.least ∷ g.greatest ∷ [])))))
    (words_as_before g.sum l)

sum_fits_lem : (g : FormerGroup) → former_group_fits g ≡ true → g.sum < half_longs
sum_fits_lem g e =
    ltb-true g.sum half_longs
    (and_right (ltb g.numbers long_values) _ (and_right (ltb g.rows long_values) _ e))

pub all_words : (gs : List FormerGroup) → all former_group_fits gs ≡ true → map group_words (map as_now gs) ≡ map former_words gs
all_words [] e = refl
all_words (g ∷ gs) e =
    ap₂ ◌∷◌ (now_words g (sum_fits_lem g (all_head former_group_fits g gs e))) (all_words gs (all_tail former_group_fits g gs e))
