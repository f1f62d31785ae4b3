-- Predicate-object lists and object lists (4.2.1, 4.2.2 of SPARQL 1.1): behind ';' the subject, behind ',' the subject and the verb of the triple before.
use Prim.Native.Nat.{ℕ}
use mathlib.Core.Path.{◌≡◌, ◌∙◌}
use mathlib.Core.List.{List, ◌∷◌}
use Rattle.syntax.specs.Kinds.{objects, verbs, same_subject_node, same_verb_node}
use Rattle.syntax.specs.Trees.{Leaf, Constraint, GroupPattern, with_triple, GroupOrUnion}
use Rattle.syntax.specs.Outlines.{Outline}
use Rattle.syntax.specs.Building.{tree_node, built}
use Rattle.syntax_trees.proofs.Rebuilding.{leaf_popped, pending, word_built, object_built, verb_built}

module _ (g : GroupPattern) (a : Leaf objects) (p : Leaf verbs) (b : Leaf objects) (ws ts : List ℕ) (cs : List Constraint)
    (gs : List GroupPattern) (us : List GroupOrUnion) (o : Outline) where
  abbrev before : GroupPattern
  before = with_triple g a p b

  pub same_subject : (q : Leaf verbs) (c : Leaf objects)
      → built (q.token ∷ c.token ∷ same_subject_node ∷ ws) (pending ts cs (before ∷ gs) us o)
      ≡ built ws (pending ts cs (with_triple before a q c ∷ gs) us o)
  unfolding tree_node
  same_subject q c =
      verb_built ts cs (before ∷ gs) us o q (c.token ∷ same_subject_node ∷ ws)
      ∙ object_built (q.token ∷ ts) cs (before ∷ gs) us o c (same_subject_node ∷ ws)
      ∙ word_built same_subject_node ws (pending (c.token ∷ q.token ∷ ts) cs (before ∷ gs) us o) (pending ts cs (with_triple before a q c ∷ gs) us o)
      (leaf_popped objects c (q.token ∷ ts) _ ∙ leaf_popped verbs q ts _)

  pub same_verb : (c : Leaf objects)
      → built (c.token ∷ same_verb_node ∷ ws) (pending ts cs (before ∷ gs) us o) ≡ built ws (pending ts cs (with_triple before a p c ∷ gs) us o)
  unfolding tree_node
  same_verb c =
      object_built ts cs (before ∷ gs) us o c (same_verb_node ∷ ws)
      ∙ word_built same_verb_node ws (pending (c.token ∷ ts) cs (before ∷ gs) us o) (pending ts cs (with_triple before a p c ∷ gs) us o)
      (leaf_popped objects c ts _)
