-- An ending is read from its words, and from no others.
use Prim.Native.Nat.{ℕ, suc, ◌+◌, ◌≤◌}
use native.Mathlib.Omega.{arith}
use mathlib.Core.Path.{◌≡◌, refl, sym, ◌∙◌, ap, ap₂}
use mathlib.Core.Bool.{Bool, true, false, cond, not}
use mathlib.Core.List.{List, [], ◌∷◌, ◌++◌, append-nil}
use lib.Dec.{eqb, leb}
use lib.ListN.{length, get_or, take, drop, length-append, take-append-drop, drop_of_length-le}
use lib.Seq.{drop-drop, drop-cons, length-take-le, take-append_seam, drop-append_seam, get_or-drop, get_or-append_seam}
use borrow.Author.Tests.{leb-true, le-leb, eqb-true, eq-eqb, ne_eqb, eqb-false, not-true}
use Rattle.words.specs.Words.{kind, low, word, is_variable, rows_kind, top_kind, group_kind, registers_kind}
use Rattle.sequences.specs.Sequences.{all}
use Rattle.sequences.proofs.Booleans.{absurd_true, and_left, and_right, and_both}
use Rattle.sequences.proofs.Elements.{all_append}
use Rattle.plans.specs.declared.EndingKind.{EndingKind}
use Rattle.plans.specs.declared.EndingKind.TheVariants.{Rows, Top, Group, Registers, Invalid}
use Rattle.plans.specs.Endings.{Ending, rows, top, group, registers, most_row_variables, most_best, most_keys, most_group_variables, best_count}
use Rattle.plans.specs.Endings.{row_width, row_variables, after_rows, rows_form, is_key, keys_form, ending_kind_of, form_as, ending_form, ending_as, ending_at}
use Rattle.plans.specs.Forms.{RowForm, TopForm, GroupForm, EndingForm}
use Rattle.plans.specs.Grammar.{EndingWords}
use Rattle.plans.proofs.Bounds.{ending_form_lem}
use Rattle.plans.proofs.BranchWords.{count_word_lem, word_count}

-- ---- the first word of an ending
data EndingBegins (w : ℕ) : EndingKind → Type 0 where
  with_rows_fact : EndingBegins w Rows
  with_top : low w ≤ most_best → w ≡ word top_kind (low w) → EndingBegins w Top
  with_group : w ≡ word group_kind (low w) → EndingBegins w Group
  with_registers : w ≡ word registers_kind 0 → EndingBegins w Registers
  with_none : EndingBegins w Invalid

ending_begins : (w : ℕ) → EndingBegins w (ending_kind_of w)
unfolding ending_kind_of
ending_begins w =
    go (eqb (kind w) rows_kind) (eqb (kind w) top_kind) refl (leb (low w) most_best) refl (eqb (kind w) group_kind) refl (leb (low w) most_group_variables)
    (eqb (kind w) registers_kind) refl (eqb (low w) 0) refl
  where
    go : (a b : Bool) → eqb (kind w) top_kind ≡ b → (c : Bool) → leb (low w) most_best ≡ c → (d : Bool) → eqb (kind w) group_kind ≡ d
        → (e f : Bool)
        → eqb (kind w) registers_kind ≡ f → (g : Bool) → eqb (low w) 0 ≡ g
        → EndingBegins w (cond a Rows (cond b (cond c Top Invalid) (cond d (cond e Group Invalid) (cond f (cond g Registers Invalid) Invalid))))
    go true b p c q d r e f s g t = with_rows_fact
    go false true p true q d r e f s g t = with_top (leb-true (low w) most_best q) (omega (arith, eqb-true (kind w) top_kind p))
    go false true p false q d r e f s g t = with_none
    go false false p c q true r true f s g t = with_group (omega (arith, eqb-true (kind w) group_kind r))
    go false false p c q true r false f s g t = with_none
    go false false p c q false r e true s true t =
        with_registers (omega (arith, eqb-true (kind w) registers_kind s, eqb-true (low w) 0 t))
    go false false p c q false r e true s false t = with_none
    go false false p c q false r e false s g t = with_none

-- ---- a kind 8 part that was read
part_words : (ws : List ℕ) → rows_form ws ≡ true → ws ≡ word rows_kind (length (row_variables ws)) ∷ (row_variables ws ++ after_rows ws)
unfolding rows_form
part_words [] e = absurd_true e refl
part_words (w ∷ us) e =
    let n = row_width w in
    let some-variable = eqb-false n 0 (not-true (eqb n 0) (and_left (not (eqb n 0)) _ e)) in
    let room = leb-true (1 + n) (length (w ∷ us)) (and_left (leb (1 + n) (length (w ∷ us))) _ (and_right (not (eqb n 0)) _ e)) in
    let c = count_word_lem rows_kind most_row_variables w some-variable in
    let len : length (take n us) ≡ n = length-take-le n us (omega arith) in
    ap₂ ◌∷◌ (c.0 ∙ ap (word rows_kind) (sym len)) (sym (take-append-drop n us) ∙ ap (λ (vs : List ℕ). take n us ++ vs) (drop-drop n 1 (w ∷ us)))

-- some words and one more are all
one_behind : (us : List ℕ) (n : ℕ) → length us ≡ suc n → us ≡ take n us ++ (get_or us n 0 ∷ [])
one_behind us n l =
    let none_left : drop (suc n) us ≡ [] = drop_of_length-le us {i = suc n} (omega arith) in
    sym (take-append-drop n us)
    ∙ ap (λ (vs : List ℕ). take n us ++ vs) (drop-cons us n 0 (omega arith) ∙ ap (λ (vs : List ℕ). get_or us n 0 ∷ vs) none_left)

-- ---- an ending that was read
rows_words : (ws : List ℕ) → form_as Rows ws ≡ true → ws ≡ word rows_kind (length (row_variables ws)) ∷ row_variables ws
unfolding form_as
rows_words ws e =
    let n = row_width (get_or ws 0 0) in
    let len = eqb-true (length ws) (1 + n) (and_right (rows_form ws) (eqb (length ws) (1 + n)) e) in
    let none_left : after_rows ws ≡ [] = drop_of_length-le ws {i = 1 + n} (omega arith) in
    part_words ws (and_left (rows_form ws) _ e)
    ∙ ap (λ (vs : List ℕ). word rows_kind (length (row_variables ws)) ∷ vs)
    (ap (λ (vs : List ℕ). row_variables ws ++ vs) none_left ∙ append-nil (row_variables ws))

top_words : (ws : List ℕ) → get_or ws 0 0 ≡ word top_kind (low (get_or ws 0 0)) → form_as Top ws ≡ true
    → ws
    ≡ word top_kind (low (get_or ws 0 0))
    ∷ word rows_kind (length (row_variables (drop 1 ws))) ∷ (row_variables (drop 1 ws) ++ after_rows (drop 1 ws))
unfolding form_as rows_form
top_words [] is e = absurd_true e refl
top_words (w ∷ us) is e = ap₂ ◌∷◌ is (part_words us (and_left (rows_form us) _ e))

group_words_lem : (ws : List ℕ) (n : ℕ) → get_or ws 0 0 ≡ word group_kind n → length ws ≡ 2 + n
    → ws ≡ word group_kind (length (take n (drop 1 ws))) ∷ (take n (drop 1 ws) ++ (get_or ws (1 + n) 0 ∷ []))
group_words_lem [] n is l = absurd (omega arith)
group_words_lem (w ∷ us) n is l =
    let len : length (take n us) ≡ n = length-take-le n us (omega arith) in
    ap₂ ◌∷◌ (is ∙ ap (word group_kind) (sym len))
    (one_behind us n (omega arith) ∙ ap (λ m. take n us ++ (m ∷ [])) (get_or-drop 1 (w ∷ us) n 0))

registers_words : (ws : List ℕ) → get_or ws 0 0 ≡ word registers_kind 0 → length ws ≡ 2 → ws ≡ word registers_kind 0 ∷ get_or ws 1 0 ∷ []
registers_words [] is l = absurd (omega arith)
registers_words (w ∷ []) is l = absurd (omega arith)
registers_words (w ∷ v ∷ []) is l = ap (λ x. x ∷ v ∷ []) is
registers_words (w ∷ v ∷ u ∷ us) is l = absurd (omega arith)

written_as : (ws : List ℕ) (l : EndingKind) → EndingBegins (get_or ws 0 0) l → form_as l ws ≡ true → EndingForm (ending_as l ws)
    → EndingWords (ending_as l ws) ws
unfolding form_as ending_as
written_as ws l with_rows_fact e f = (f, rows_words ws e)
written_as ws l (with_top k is) e f = (f, (low (get_or ws 0 0), k, refl, top_words ws is e))
written_as ws l (with_group is) e f =
    (f, group_words_lem ws (low (get_or ws 0 0)) is (eqb-true (length ws) _ (and_left (eqb (length ws) (2 + low (get_or ws 0 0))) _ e)))
written_as ws l (with_registers is) e f = (f, registers_words ws is (eqb-true (length ws) 2 (and_left (eqb (length ws) 2) _ e)))
written_as ws l with_none e f = absurd_true refl (sym e)

pub read_ending : (ws : List ℕ) → ending_form ws ≡ true → EndingWords (ending_at ws) ws
read_ending ws e = written_as ws (ending_kind_of (get_or ws 0 0)) (ending_begins (get_or ws 0 0)) e (ending_form_lem ws e)

-- ---- an ending that is written
-- a kind 8 part, before some words
module _ (vs rest : List ℕ) (f : RowForm vs) where
  abbrev part : List ℕ
  part = word rows_kind (length vs) ∷ (vs ++ rest)

  abbrev width : ℕ
  width = row_width (word rows_kind (length vs))

  width_is : width ≡ length vs
  width_is = word_count rows_kind most_row_variables (length vs) f.most (omega arith)

  variables_at : row_variables part ≡ vs
  variables_at = ap (λ n. take n (vs ++ rest)) width_is ∙ take-append_seam vs rest

  after_at : after_rows part ≡ rest
  after_at = ap (λ n. drop (1 + n) part) width_is ∙ sym (drop-drop (length vs) 1 part) ∙ drop-append_seam vs rest

  form_at : rows_form part ≡ true
  unfolding rows_form
  form_at =
      let l = f.least in
      and_both (not (eqb width 0)) _ (ap (λ n. not (eqb n 0)) width_is ∙ ap not (ne_eqb (length vs) 0 (λ e. omega arith)))
      (and_both (leb (1 + width) (length part)) _ (le-leb (1 + width) (length part) (omega (arith, width_is, length-append vs rest)))
      (ap (all is_variable) variables_at ∙ f.variables))

-- an ending that is read so
abbrev ReadAs : Ending → List ℕ → Type 0
ReadAs e ws = (ending_form ws ≡ true) × (ending_at ws ≡ e)

-- by what its first word begins
read_as : (ws : List ℕ) (l : EndingKind) → ending_kind_of (get_or ws 0 0) ≡ l → (e : Ending) → form_as l ws ≡ true → ending_as l ws ≡ e
    → ReadAs e ws
read_as ws l p e f g = (ap (λ (x : EndingKind). form_as x ws) p ∙ f, ap (λ (x : EndingKind). ending_as x ws) p ∙ g)

last_rows : (n : ℕ) → n ≤ most_row_variables → ending_kind_of (word rows_kind n) ≡ Rows
unfolding ending_kind_of
last_rows n h = let k : kind (word rows_kind n) ≡ rows_kind = omega arith in rw (eq-eqb (kind (word rows_kind n)) rows_kind k)

last_top : (n : ℕ) → n ≤ most_best → ending_kind_of (word top_kind n) ≡ Top
unfolding ending_kind_of
last_top n h =
    let k : kind (word top_kind n) ≡ top_kind = omega arith in
    let l : low (word top_kind n) ≡ n = omega arith in
    rw (k, l, le-leb n most_best h)

last_group : (n : ℕ) → n ≤ most_group_variables → ending_kind_of (word group_kind n) ≡ Group
unfolding ending_kind_of
last_group n h =
    let k : kind (word group_kind n) ≡ group_kind = omega arith in
    let l : low (word group_kind n) ≡ n = omega arith in
    rw (k, l, le-leb n most_group_variables h)

rows_back : (vs : List ℕ) → RowForm vs → ReadAs (rows vs) (word rows_kind (length vs) ∷ vs)
unfolding form_as ending_as
rows_back vs f =
    let ws = word rows_kind (length vs) ∷ vs in
    let same : ws ≡ part vs [] f = ap (λ (us : List ℕ). word rows_kind (length vs) ∷ us) (sym (append-nil vs)) in
    let w = width_is vs [] f in
    read_as ws Rows (last_rows (length vs) f.most) (rows vs)
    (and_both (rows_form ws) _ (ap rows_form same ∙ form_at vs [] f)
    (eq-eqb (length ws) (1 + row_width (word rows_kind (length vs))) (omega arith)))
    (ap rows (ap row_variables same ∙ variables_at vs [] f))

keys_form_lem : (keys : List ℕ) → 1 ≤ length keys → length keys ≤ most_keys → all is_key keys ≡ true → keys_form keys ≡ true
unfolding keys_form
keys_form_lem keys l m e = rw (ne_eqb (length keys) 0 (λ z. omega arith), le-leb (length keys) most_keys m) e

top_back : (most k : ℕ) (vs keys : List ℕ) → TopForm most vs keys → k ≤ most_best → most ≡ best_count k
    → ReadAs (top most vs keys) (word top_kind k ∷ word rows_kind (length vs) ∷ (vs ++ keys))
unfolding form_as ending_as
top_back most k vs keys f l m =
    let ws = word top_kind k ∷ part vs keys f.row in
    let low-is : low (word top_kind k) ≡ k = omega arith in
    let count_is : best_count (low (word top_kind k)) ≡ most = ap best_count low-is ∙ sym m in
    let vs-are = variables_at vs keys f.row in
    let keys_are = after_at vs keys f.row in
    read_as ws Top (last_top k l) (top most vs keys)
    (and_both (rows_form (part vs keys f.row)) _ (form_at vs keys f.row)
    (ap keys_form keys_are ∙ keys_form_lem keys f.some_key f.few_keys f.are_keys))
    (λ i. top (count_is i) (vs-are i) (keys_are i))

group_back : (vs : List ℕ) (m : ℕ) → GroupForm vs m → ReadAs (group vs m) (word group_kind (length vs) ∷ (vs ++ (m ∷ [])))
unfolding form_as ending_as all
group_back vs m f =
    let w = word group_kind (length vs) in
    let ws = w ∷ (vs ++ (m ∷ [])) in
    let few = f.most in
    let low-is : low w ≡ length vs = omega arith in
    let vs-are : take (low w) (vs ++ (m ∷ [])) ≡ vs = ap (λ n. take n (vs ++ (m ∷ []))) low-is ∙ take-append_seam vs (m ∷ []) in
    let m-is : get_or ws (1 + low w) 0 ≡ m = ap (λ n. get_or ws (1 + n) 0) low-is ∙ sym (get_or-drop 1 ws (length vs) 0) ∙ get_or-append_seam vs m [] 0 in
    read_as ws Group (last_group (length vs) f.most) (group vs m)
    (and_both (eqb (length ws) (2 + low w)) _ (eq-eqb (length ws) (2 + low w) (omega (arith, length-append vs (m ∷ []))))
    (all_append is_variable vs (m ∷ []) f.variables (and_both (is_variable m) true f.measure refl)))
    (λ i. group (vs-are i) (m-is i))

registers_back : (v : ℕ) → is_variable v ≡ true → ReadAs (registers v) (word registers_kind 0 ∷ v ∷ [])
unfolding form_as ending_as all ending_kind_of
registers_back v f = (and_both (is_variable v) true f refl, refl)

pub ending_back : (e : Ending) (ws : List ℕ) → EndingWords e ws → (ending_form ws ≡ true) × (ending_at ws ≡ e)
ending_back (rows vs) ws h = rw h.1 (rows_back vs h.0)
ending_back (top most vs keys) ws h = rw h.1.3 (top_back most h.1.0 vs keys h.0 h.1.1 h.1.2)
ending_back (group vs m) ws h = rw h.1 (group_back vs m h.0)
ending_back (registers v) ws h = rw h.1 (registers_back v h.0)
