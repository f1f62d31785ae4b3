-- A call that writes tables is right: a refused one leaves the buffers that were lent, and a served one writes them over their first words.
use Prim.Native.Nat.{ℕ, ◌*◌}
use native.Mathlib.Omega.{arith}
use mathlib.Core.Path.{◌≡◌, refl, sym, ◌∙◌, ap, subst, subst⁻¹}
use mathlib.Core.List.{List, map}
use lib.ListN.{length}
use Rattle.sequences.specs.Buffers.{Overwritten}
use Rattle.sequences.specs.Sequences.{over}
use Rattle.words.specs.Tests.{Test}
use Rattle.sequences.proofs.Buffers.{overwritten, take_over}
use Rattle.calls.specs.Calls.{RightCall, result_of_call}
use Rattle.calls.proofs.Refusals.{call_refusals}
use Rattle.tables.specs.Tables.{Tables, column_count}
use Rattle.table_answers.specs.declared.TablesWritten.TheVariants.{Words, Refused}
use Rattle.table_answers.specs.Writing.{TableBuffers, table_buffers, TablesResult, written_with, tables_left, writes_tables}
use Rattle.table_answers.specs.Counts.{TablesCount, TablesOver}

pub writing_right : {I : Type 0} (tests : I → List Test) (numbers : List ℕ) (lent : I → TableBuffers) (tables : I → Tables)
    → ((i : I) → map (λ (x : Test). x.0) (tests i) ≡ numbers) → RightCall (writes_tables tests numbers lent tables)
writing_right tests numbers lent tables order =
    record {
      order = order;
      refused = λ x. refl;
      told = λ x. refl;
      empty = λ x. refl;
      serving = λ i h x e. let z : ◌≡◌ {A = ℕ} 0 1 = cc in omega arith;
      zero = λ i h. refl;
      counting = λ i h. refl;
    }

-- what a refused call leaves: the buffers that were lent
pub tables_unchanged : {I : Type 0} (tests : I → List Test) (numbers : List ℕ) (lent : I → TableBuffers) (tables : I → Tables)
    → ((i : I) → map (λ (x : Test). x.0) (tests i) ≡ numbers) → (i : I) (x : ℕ)
    → (result_of_call (writes_tables tests numbers lent tables) i).answer ≡ Refused x
    → (result_of_call (writes_tables tests numbers lent tables) i).buffers ≡ lent i
tables_unchanged tests numbers lent tables order i x e =
    ((call_refusals (writes_tables tests numbers lent tables) (writing_right tests numbers lent tables order) i).unchanged x e).buffers

-- some words over a buffer, counted otherwise
counted : (ws before : List ℕ) (n : ℕ) → length ws ≡ n → Overwritten ws before (over ws before) n
counted ws before n e = subst (Overwritten ws before (over ws before)) e (overwritten ws before)

module _ (t : Tables) (b : TableBuffers) where
  -- what is read back from the buffers
  read_tables : tables_left (written_with t b) ≡ t
  read_tables = rw (take_over t.rows b.rows, take_over t.pos b.pos, take_over t.osp b.osp)

  -- of a result that leaves these tables
  module _ (r : TablesResult) (e : r ≡ written_with t b) where
    pub tables_read : tables_left r ≡ t
    tables_read = ap tables_left e ∙ read_tables

    pub tables_over : (n : ℕ) → TablesCount t n → TablesOver t n b r
    tables_over n c =
        subst⁻¹ (TablesOver t n b) e
        (record {
          rows = counted _ _ _ c.rows;
          pos = counted _ _ _ c.pos;
          osp = counted _ _ _ c.osp;
          words = rw (c.rows, c.pos, c.osp);
        })

-- ---- a result with the words of some tables
abbrev results : ℕ → ℕ → ℕ → List ℕ → List ℕ → List ℕ → TablesResult
results a b c rows pos osp = record { answer = Words a b c; buffers = table_buffers rows pos osp }

equal_results : {a a' b b' c c' : ℕ} {r r' p p' o o' : List ℕ} → a ≡ a' → b ≡ b' → c ≡ c' → r ≡ r' → p ≡ p' → o ≡ o'
    → results a b c r p o ≡ results a' b' c' r' p' o'
equal_results e f g h i j = rw (e, f, g, h, i, j)

pub same_result : (t : Tables) (before : TableBuffers) (n : ℕ) → TablesCount t n → (end count : ℕ) (rows pos osp : List ℕ)
    → end ≡ n * column_count → count ≡ n → rows ≡ over t.rows before.rows → pos ≡ over t.pos before.pos
    → osp ≡ over t.osp before.osp → record { answer = Words end count count; buffers = table_buffers rows pos osp } ≡ written_with t before
same_result t before n c end count rows pos osp d e f g h =
    equal_results (d ∙ sym c.rows) (e ∙ sym c.pos) (e ∙ sym c.osp) f g h
