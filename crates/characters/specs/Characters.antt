-- A text's characters with the places where they stand: UTF-8 read and the escapes of 19.2 undone, from the left. What comes out is not looked at again.
-- Assumes nothing: these are definitions.
use Rattle.std.specs.Prelude.{ℕ, zero, suc, ◌+◌, Bool, false, cond, ◌&&◌, not, List, [], ◌∷◌, ◌++◌, map, eqb, length}
use Rattle.sequences.specs.Buffers.{Overwritten}
use Rattle.characters.specs.declared.Character.{Character}
use Rattle.characters.specs.Sequences.{sequence_of}
use Rattle.characters.specs.Escapes.{backslash, escape_of}

-- the character that a byte and those behind it begin with. Of two backslashes side by side neither begins an escape:
-- `behind` is whether the first of two was read
unfoldable pub character_at : Bool → ℕ → List ℕ → Character
character_at behind a bs = cond (eqb a backslash && not behind) (escape_of bs) (sequence_of a bs)

-- whether it is a backslash by itself that may be the first of two
abbrev pub leaves_backslash : Bool → ℕ → Character → Bool
leaves_backslash behind a c = eqb a backslash && (not behind && eqb c.more 0)

-- a character of a text: its code point, and the byte where it begins
pub record PlacedCharacter : Type 0 where
  pub point : ℕ
  pub place : ℕ

abbrev pub character_on : ℕ → ℕ → PlacedCharacter
character_on p at = record { point = p; place = at }

-- the characters of bytes that begin at a place, of which the first k are still of the character before
unfoldable pub characters_from : Bool → ℕ → ℕ → List ℕ → List PlacedCharacter
characters_from behind at k [] = []
characters_from behind at (suc k) (b ∷ bs) = characters_from behind (at + 1) k bs
characters_from behind at zero (b ∷ bs) =
    character_on (character_at behind b bs).point at
    ∷ characters_from (leaves_backslash behind b (character_at behind b bs)) (at + 1) (character_at behind b bs).more bs

abbrev pub characters_of : List ℕ → List PlacedCharacter
characters_of text = characters_from false 0 0 text

-- their code points, and their places with the end of the text as the last
abbrev pub points_of : List ℕ → List ℕ
points_of text = map (λ c. c.point) (characters_of text)

abbrev pub places_of : List ℕ → List ℕ
places_of text = map (λ c. c.place) (characters_of text) ++ (length text ∷ [])

-- both lists, each at the front of its buffer, and how many code points there are
pub record WrittenCharacters (text points₀ points places₀ places : List ℕ) (count : ℕ) : Type 0 where
  pub points_written : Overwritten (points_of text) points₀ points count
  pub places_written : Overwritten (places_of text) places₀ places (count + 1)
