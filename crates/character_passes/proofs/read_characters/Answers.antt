-- `read_characters` meets its contract. The invariant: what is written and the characters from a place on are the whole.
use mathlib.Core.List.{◌++◌, map}
use Rattle.characters.specs.Characters.{characters_of, points_of}
use mathlib.Core.List.{[], ◌∷◌, append-nil}
use lib.ListN.{set, length-set}
use Rattle.characters.specs.Characters.{places_of}
use Rattle.characters.proofs.Laws.{character_within, characters_end, characters_next}
use Rattle.sequences.proofs.Growing.{written_next, behind_next, written_all}
use Prim.Native.Nat.{◌+◌}
use mathlib.Core.Path.{◌≡◌, refl, sym, ap, ◌∙◌}
use native.Mathlib.Omega.{arith}
use lib.ListN.{length, take}
use Rattle.character_passes.proofs.read_characters.Goals as goal

pub loop-at-init : goal.loop-at-init
loop-at-init c = (omega arith, omega arith, refl, refl, refl, refl, refl, refl)

pub overflow_add-at-in-loop-at : goal.overflow_add-at-in-loop-at
overflow_add-at-in-loop-at c =
    let a = c.args in
    let t = a.text.now in
    let i = c.loop-at.invariant in
    omega (arith, character_within t c.loop-at.behind c.loop-at.at (omega arith) c.character-c.result c.character-c.ensures)

pub loop-at-smaller : goal.loop-at-smaller
loop-at-smaller c =
    let a = c.args in
    let t = a.text.now in
    let i = c.loop-at.invariant in
    omega (arith, character_within t c.loop-at.behind c.loop-at.at (omega arith) c.character-c.result c.character-c.ensures)

pub loop-at-preserved : goal.loop-at-preserved
loop-at-preserved c =
    let a = c.args in
    let t = a.text.now in
    let i = c.loop-at.invariant in
    let e = characters_next t c.loop-at.behind c.loop-at.at (omega arith) c.character-c.result c.character-c.ensures in
    let f = rw (sym c.leaves_backslash-behind.ensures) at e in (
      omega (arith, character_within t c.loop-at.behind c.loop-at.at (omega arith) c.character-c.result c.character-c.ensures),
      omega arith,
      (simp length-set) ∙ i.2,
      (simp length-set) ∙ i.3,
      written_next c.loop-at.points c.loop-at.n c.character-c.result.point (omega arith) (points_of t) _
          (i.4 ∙ ap (λ r. take c.loop-at.n c.loop-at.points ++ map (λ p. p.point) r) f),
      behind_next c.loop-at.points c.loop-at.n c.character-c.result.point (omega arith) a.points.now i.5,
      written_next c.loop-at.places c.loop-at.n c.loop-at.at (omega arith) (map (λ p. p.place) (characters_of t)) _
          (i.6 ∙ ap (λ r. take c.loop-at.n c.loop-at.places ++ map (λ p. p.place) r) f),
      behind_next c.loop-at.places c.loop-at.n c.loop-at.at (omega arith) a.places.now i.7,
    )

pub shape_of-points : goal.shape_of-points
shape_of-points c = c.loop-at.invariant.2

pub shape_of-places : goal.shape_of-places
shape_of-places c = (simp length-set) ∙ c.loop-at.invariant.3

pub returns : goal.returns
returns c =
    let a = c.args in
    let t = a.text.now in
    let i = c.loop-at.invariant in
    let n = c.loop-at.n in
    let points = c.loop-at.points in
    let places = c.loop-at.places in
    let at = c.loop-at.at in
    let z : at ≡ length t = omega (arith, c.loop-at-test.false) in
    let e = characters_end t c.loop-at.behind at (omega arith) in
    let p : points_of t ≡ take n points = i.4 ∙ ap (λ r. take n points ++ map (λ d. d.point) r) e ∙ append-nil (take n points) in
    let m : map (λ d. d.place) (characters_of t) ≡ take n places = i.6
    ∙ ap (λ r. take n places ++ map (λ d. d.place) r) e ∙ append-nil (take n places) in
    let q : places_of t ≡ take n places ++ (at ∷ []) = ap (λ d. d ++ (length t ∷ [])) m ∙ ap (λ d. take n places ++ (d ∷ [])) (sym z) in
    record {
      points_written = written_all points n (points_of t) a.points.now (omega arith) (sym p) i.5;
      places_written =
          written_all (set places n at) (n + 1) (places_of t) a.places.now (omega (arith, length-set places n at))
          (sym (written_next places n at (omega arith) (places_of t) [] q ∙ append-nil _))
          (behind_next places n at (omega arith) a.places.now i.7);
    }
