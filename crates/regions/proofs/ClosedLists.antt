-- Lists that are taken into a closed one: of every ending, the list of some rows, closed or not, and then that of further ones, closed or not, make the
-- list of all, closed where one of them was. So the record of no rows counts once, and adds nothing where there are rows.
use Prim.Native.Nat.{ℕ, ◌+◌}
use native.Mathlib.Omega.{arith}
use mathlib.Core.Path.{◌≡◌, refl, sym, ◌∙◌, ap, ap₂}
use mathlib.Core.Bool.{Bool, true, false, cond, ◌||◌}
use mathlib.Core.List.{List, [], ◌∷◌, ◌++◌, map, flatten, append-nil}
use lib.ListN.{length}
use lib.IntN.{+ℤ_idl}
use Rattle.words.specs.Bindings.{Bindings}
use Rattle.sequences.specs.Sequences.{lex_before}
use Rattle.plans.specs.Endings.{Ending, rows, top, group, registers}
use Rattle.plans.proofs.Bounds.{EndingForm}
use Rattle.lists.specs.Groups.{Group, of_nothing, together, lesser, greater, keys_before, add_by, add_all_by, add_groups, groups_of, group_words}
use Rattle.lists.specs.Gathering.{gathered, merged, taken_into, groups_in}
use Rattle.lists.specs.Closing.{closed, list_at}
use Rattle.lists.proofs.TopLists.{Fine}
use Rattle.lists.proofs.GroupWords.{HaveKeys, groups_in_words}
use Rattle.lists.proofs.Wrapping.{words_added}
use Rattle.lists.proofs.GroupLists.{groups_have, groups_append}
use Rattle.lists.proofs.ClosedGroups.{together_nothing, one_group_lem, one_closed, closed_groups, closed_have, closed_words}
use Rattle.lists.proofs.Closing.{at_adds}

-- ---- the record of no rows before or behind another record of no keys: the other
nothing_together : (g : Group) → g.keys ≡ [] → together of_nothing g ≡ g
unfolding lesser greater
nothing_together g k =
    let p : 0 + g.rows ≡ g.rows = omega arith in
    let q : 0 + g.numbers ≡ g.numbers = omega arith in
    let s = +ℤ_idl g.sum in
    λ i. record { keys = sym k i; rows = p i; numbers = q i; sum = s i; least = g.least; greatest = g.greatest }

alone_joined : (g h : Group) → g.keys ≡ [] → h.keys ≡ [] → add_groups (g ∷ []) (h ∷ []) ≡ together g h ∷ []
unfolding add_all_by add_by keys_before lex_before
alone_joined g h p q = rw (p, q) refl

onto_nothing : (h : Group) → h.keys ≡ [] → add_groups (of_nothing ∷ []) (h ∷ []) ≡ h ∷ []
onto_nothing h k = alone_joined of_nothing h refl k ∙ ap (λ g. g ∷ []) (nothing_together h k)

nothing_onto : (h : Group) → h.keys ≡ [] → add_groups (h ∷ []) (of_nothing ∷ []) ≡ h ∷ []
nothing_onto h k = alone_joined h of_nothing k refl ∙ ap (λ g. g ∷ []) (together_nothing h)

none_before_lem : (h : Group) → add_groups [] (h ∷ []) ≡ h ∷ []
unfolding add_all_by add_by
none_before_lem h = refl

-- ---- the records of some rows, closed or not
abbrev pub groups_at : List ℕ → ℕ → Bool → List Bindings → List Group
groups_at vs m ended bs = cond ended (closed_groups vs m bs) (groups_of vs m bs)

module _ (m : ℕ) where
  -- with no variable
  some_alike : (c d : Bool) (b : Bindings) (bs : List Bindings) → groups_at [] m c (b ∷ bs) ≡ groups_at [] m d (b ∷ bs)
  some_alike true true b bs = refl
  some_alike true false b bs = refl
  some_alike false true b bs = refl
  some_alike false false b bs = refl

  behind_rows : (d : Bool) (b : Bindings) (bs ys : List Bindings)
      → add_groups (groups_of [] m (b ∷ bs)) (groups_at [] m d ys) ≡ groups_of [] m ((b ∷ bs) ++ ys)
  behind_rows false b bs ys = sym (groups_append [] m (b ∷ bs) ys)
  behind_rows true b bs [] =
      let r = one_group_lem m b bs in
      ap (λ gs. add_groups gs (of_nothing ∷ [])) r.2 ∙ nothing_onto r.0 r.1 ∙ sym r.2 ∙ ap (groups_of [] m) (sym (append-nil (b ∷ bs)))
  behind_rows true b bs (y ∷ ys) = sym (groups_append [] m (b ∷ bs) (y ∷ ys))

  onto_none : (d : Bool) (ys : List Bindings) → add_groups (of_nothing ∷ []) (groups_at [] m d ys) ≡ closed_groups [] m ys
  unfolding add_all_by
  onto_none true ys = let r = one_closed m ys in ap (add_groups (of_nothing ∷ [])) r.2 ∙ onto_nothing r.0 r.1 ∙ sym r.2
  onto_none false [] = refl
  onto_none false (y ∷ ys) =
      let r = one_closed m (y ∷ ys) in ap (add_groups (of_nothing ∷ [])) r.2 ∙ onto_nothing r.0 r.1 ∙ sym r.2

  from_none : (d : Bool) (ys : List Bindings) → add_groups (groups_of [] m []) (groups_at [] m d ys) ≡ groups_at [] m d ys
  unfolding add_all_by
  from_none true ys = let r = one_closed m ys in ap (add_groups []) r.2 ∙ none_before_lem r.0 ∙ sym r.2
  from_none false ys = sym (groups_append [] m [] ys)

  no_variable : (c d : Bool) (xs ys : List Bindings) → add_groups (groups_at [] m c xs) (groups_at [] m d ys) ≡ groups_at [] m (c || d) (xs ++ ys)
  no_variable true d [] ys = onto_none d ys
  no_variable false d [] ys = from_none d ys
  no_variable true d (x ∷ xs) ys = behind_rows d x xs ys
  no_variable false d (x ∷ xs) ys = behind_rows d x xs ys ∙ some_alike false d x (xs ++ ys)

-- the records of some rows and those of others, added up, are those of all
pub groups_both : (vs : List ℕ) (m : ℕ) (c d : Bool) (xs ys : List Bindings)
    → add_groups (groups_at vs m c xs) (groups_at vs m d ys) ≡ groups_at vs m (c || d) (xs ++ ys)
groups_both [] m c d xs ys = no_variable m c d xs ys
groups_both (v ∷ vs) m true true xs ys = sym (groups_append (v ∷ vs) m xs ys)
groups_both (v ∷ vs) m true false xs ys = sym (groups_append (v ∷ vs) m xs ys)
groups_both (v ∷ vs) m false true xs ys = sym (groups_append (v ∷ vs) m xs ys)
groups_both (v ∷ vs) m false false xs ys = sym (groups_append (v ∷ vs) m xs ys)

-- ---- as words
pub words_at : (vs : List ℕ) (m : ℕ) (th : List ℕ) (d : Bool) (bs : List Bindings)
    → list_at (group vs m) th d bs ≡ flatten (map group_words (groups_at vs m d bs))
unfolding gathered
words_at vs m th true bs = closed_words vs m th bs
words_at vs m th false bs = refl

pub have_at : (vs : List ℕ) (m : ℕ) (d : Bool) (bs : List Bindings) → HaveKeys (length vs) (groups_at vs m d bs)
have_at [] m true bs = closed_have m bs
have_at (v ∷ vs) m true bs = groups_have (v ∷ vs) m bs
have_at vs m false bs = groups_have vs m bs

groups_add : (vs : List ℕ) (m : ℕ) (th : List ℕ) (c d : Bool) (xs ys : List Bindings)
    → merged (group vs m) (list_at (group vs m) [] c xs) (list_at (group vs m) th d ys) ≡ list_at (group vs m) [] (c || d) (xs ++ ys)
unfolding merged
groups_add vs m th c d xs ys =
    ap (λ gs. flatten (map group_words gs))
    (ap₂ add_groups (ap (groups_in vs) (words_at vs m [] c xs) ∙ groups_in_words vs (groups_at vs m c xs) (have_at vs m c xs))
    (ap (groups_in vs) (words_at vs m th d ys) ∙ groups_in_words vs (groups_at vs m d ys) (have_at vs m d ys)))
    ∙ ap flatten (words_added (groups_at vs m c xs) (groups_at vs m d ys))
    ∙ ap (λ gs. flatten (map group_words gs)) (groups_both vs m c d xs ys)
    ∙ sym (words_at vs m [] (c || d) (xs ++ ys))

-- ---- of every ending
pub both_add : (e : Ending) → EndingForm e → (th : List ℕ) (c d : Bool) (xs ys : List Bindings) → Fine e xs th
    → taken_into e (list_at e [] c xs) (list_at e th d ys) ≡ list_at e [] (c || d) (xs ++ ys)
unfolding closed
both_add e f th false d xs ys h = at_adds e f th d xs ys h
both_add (rows vs) f th true true xs ys h = at_adds (rows vs) f th true xs ys h
both_add (rows vs) f th true false xs ys h = at_adds (rows vs) f th false xs ys h
both_add (top k vs keys) f th true true xs ys h = at_adds (top k vs keys) f th true xs ys h
both_add (top k vs keys) f th true false xs ys h = at_adds (top k vs keys) f th false xs ys h
both_add (group vs m) f th true d xs ys h = groups_add vs m th true d xs ys
both_add (registers v) f th true true xs ys h = at_adds (registers v) f th true xs ys h
both_add (registers v) f th true false xs ys h = at_adds (registers v) f th false xs ys h
