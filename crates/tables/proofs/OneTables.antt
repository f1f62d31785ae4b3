-- Right tables are determined by their rows.
use Prim.Native.Nat.{ℕ, zero, suc, ◌≤◌, ◌<◌}
use native.Mathlib.Omega.{arith}
use mathlib.Core.Path.{◌≡◌, refl, sym, ◌∙◌, ap, subst}
use mathlib.Core.Bool.{true, false}
use lib.Seq.{ext_get_or}
use Rattle.sequences.specs.Sequences.{lex_before, count_below}
use Rattle.sequences.proofs.Booleans.{absurd_true, yes, no, decided}
use Rattle.sequences.proofs.Orders.{Three, less, same, more, three, lex_asym}
use Rattle.sequences.proofs.Downward.{passes_below, fails_from}
use Rattle.tables.specs.declared.Order.{Order}
use Rattle.tables.specs.declared.Order.TheVariants.{Spo, Pos, Osp}
use Rattle.tables.specs.Tables.{Tables, tables_of, row_count, row_at, fields_at}
use Rattle.tables.specs.Right.{Right}
use Rattle.tables.proofs.Ascending.{ascend, place_of, count_rows}
use Rattle.tables.specs.RowLists.{number_before, tables_from}
use Rattle.tables.proofs.MadeTables.{made_right}

module _ (t : Tables) (w : Right t) (o : Order) where
  -- how many rows come before a row is its place
  pub rank_place : (i : ℕ) → i < row_count t → count_below (λ row. number_before o t.rows row (row_at o t i)) (row_count t) ≡ i
  rank_place i h = sym (count_rows t w o (λ row. number_before o t.rows row (row_at o t i))) ∙ counted
    where
      itself : lex_before (fields_at o t i) (fields_at o t i) ≡ false
      itself = elim (decided (lex_before (fields_at o t i) (fields_at o t i))) [
        | yes p ↦ absurd_true p (lex_asym (fields_at o t i) (fields_at o t i) p)
        | no p ↦ p
      ]

      passes : (p : ℕ) → p < i → lex_before (fields_at o t p) (fields_at o t i) ≡ true
      passes p l = ascend t w o p i l h

      fails : (p : ℕ) → i ≤ p → p < row_count t → lex_before (fields_at o t p) (fields_at o t i) ≡ false
      fails p l k = at (three p i)
        where
          at : Three p i → lex_before (fields_at o t p) (fields_at o t i) ≡ false
          at (less m) = absurd (omega arith)
          at (same m) = subst (λ q. lex_before (fields_at o t q) (fields_at o t i) ≡ false) (sym m) itself
          at (more m) = lex_asym (fields_at o t i) (fields_at o t p) (ascend t w o i p m k)

      down : (j p : ℕ) → j < p → p < row_count t → lex_before (fields_at o t p) (fields_at o t i) ≡ true
          → lex_before (fields_at o t j) (fields_at o t i) ≡ true
      down j p l k e = at (three j i)
        where
          at : Three j i → lex_before (fields_at o t j) (fields_at o t i) ≡ true
          at (less m) = passes j m
          at (same m) = absurd_true e (fails p (omega arith) k)
          at (more m) = absurd_true e (fails p (omega arith) k)

      most : count_below (λ place. lex_before (fields_at o t place) (fields_at o t i)) (row_count t) ≤ i
      most = fails_from (λ place. lex_before (fields_at o t place) (fields_at o t i)) (row_count t) down i h itself

      least : (k : ℕ) → k ≡ i → k ≤ count_below (λ place. lex_before (fields_at o t place) (fields_at o t i)) (row_count t)
      least zero e = omega arith
      least (suc k) e =
          let b = passes_below (λ place. lex_before (fields_at o t place) (fields_at o t i)) (row_count t) down k (omega arith) (passes k (omega arith)) in
          omega arith

      counted : count_below (λ place. lex_before (fields_at o t place) (fields_at o t i)) (row_count t) ≡ i
      counted = let m = most in let n = least i refl in omega arith

module _ (t u : Tables) (w : Right t) (x : Right u) (e : t.rows ≡ u.rows) where
  counts : row_count t ≡ row_count u
  counts = rw e

  pub same_places : (o : Order) (i : ℕ) → i < row_count t → row_at o t i ≡ row_at o u i
  same_places o i h =
      let k : i < row_count u = (let c = counts in omega arith) in
      let r : row_at o u i < row_count t = (let c = counts in let n = x.named o i k in omega arith) in
      let p = place_of t w o (row_at o u i) r in
      let a = rank_place t w o p.from p.below in
      let b = rank_place u x o i k in
      let c : count_below (λ row. number_before o t.rows row (row_at o t p.from)) (row_count t)
      ≡ count_below (λ row. number_before o u.rows row (row_at o u i)) (row_count u) =
      ap (λ q. count_below (λ row. number_before o t.rows row q) (row_count t)) p.is
      ∙ ap (λ rows. count_below (λ row. number_before o rows row (row_at o u i)) (row_count t)) e
      ∙ ap (count_below (λ row. number_before o u.rows row (row_at o u i))) counts in
      let q : p.from ≡ i = sym a ∙ c ∙ b in
      sym (ap (row_at o t) q) ∙ p.is

  pub one_tables : t ≡ u
  one_tables = same t u (e) pos osp
    where
      pos : t.pos ≡ u.pos
      pos =
          ext_get_or 0 t.pos u.pos (w.sized.pos_length ∙ counts ∙ sym x.sized.pos_length)
          (λ i h. same_places Pos i (let n = w.sized.pos_length in omega arith))

      osp : t.osp ≡ u.osp
      osp =
          ext_get_or 0 t.osp u.osp (w.sized.osp_length ∙ counts ∙ sym x.sized.osp_length)
          (λ i h. same_places Osp i (let n = w.sized.osp_length in omega arith))

      same : (a b : Tables) → a.rows ≡ b.rows → a.pos ≡ b.pos → a.osp ≡ b.osp → a ≡ b
      same a b p q r =
          ap (λ l. tables_of l a.pos a.osp) p ∙ ap (λ l. tables_of b.rows l a.osp) q ∙ ap (λ l. tables_of b.rows b.pos l) r

-- right tables are those of their rows
pub made_again : (t : Tables) → Right t → t ≡ tables_from t.rows
made_again t w =
    one_tables t (tables_from t.rows) w
    (made_right t.rows
    (record { whole = w.sized.whole; few = w.sized.few; kinds = w.kinds; years = w.years; up = w.up Spo }))
    refl
