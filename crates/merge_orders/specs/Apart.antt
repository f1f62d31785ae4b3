-- Elements of which no two are equal in an order. Assumes nothing: these are definitions.
use Rattle.std.specs.Prelude.{◌≡◌, ◌⊎◌, Bool, true, List, [], ◌∷◌}

-- one of two comes before the other
abbrev pub Differs : {A : Type 0} → (A → A → Bool) → A → A → Type 0
Differs before x y = (before x y ≡ true) ⊎ (before y x ≡ true)

abbrev pub FromEach : {A : Type 0} → (A → A → Bool) → A → List A → Type 0
FromEach before x [] = Unit {0}
FromEach before x (y ∷ ys) = Differs before x y × FromEach before x ys

-- no two are equal
abbrev pub Apart : {A : Type 0} → (A → A → Bool) → List A → Type 0
Apart before [] = Unit {0}
Apart before (x ∷ xs) = FromEach before x xs × Apart before xs
