-- Each line as a word, its fields and the end of the line.
use Prim.Native.Nat.{ℕ}
use mathlib.Core.Path.{◌≡◌, subst, refl}
use mathlib.Core.List.{List, [], ◌∷◌, ◌++◌}
use Rattle.lists.specs.Groups.{Group}
use Rattle.lists.specs.Putting.{Listed}
use Rattle.print_texts.specs.Texts.{Text, newline, number_field, number_fields, term_fields, row_word, group_word, list_word, refused_word}
use Rattle.print_lines.specs.Lines.{row_line, group_fields, group_line, list_line, refused_line, served_line}

pub row_text : (ws : List ℕ) → row_line ws ≡ row_word ++ (term_fields ws ++ (newline ∷ []))
unfolding row_line
row_text ws = refl

pub list_text : (ws : List ℕ) → list_line ws ≡ list_word ++ (number_fields ws ++ (newline ∷ []))
unfolding list_line
list_text ws = refl

pub group_text : (g : Group) → group_line g ≡ group_word ++ (group_fields g ++ (newline ∷ []))
unfolding group_line
group_text g = refl

-- of a number held in 64 bits
pub refused_text : (x y : ℕ) → y ≡ x → refused_line x ≡ refused_word ++ (number_field y ++ (newline ∷ []))
unfolding refused_line
refused_text x y e = rw e

pub served_text : (n x y : ℕ) (ending : Text) (before after : List ℕ) (r : ℕ) → y ≡ x → Listed (served_line n y ending) before after r
    → Listed (served_line n x ending) before after r
served_text n x y ending before after r e = subst (λ (s : ℕ). Listed (served_line n s ending) before after r) e
