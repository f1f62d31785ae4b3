-- What the code's answers say of its buffers. Assumes nothing: these are definitions.
use Rattle.std.specs.Prelude.{ℕ, ◌+◌, ◌≤◌, List, Result, Ok, Err, take, drop}
use Rattle.syntax.specs.Machine.{AfterToken, on, off, Parsed, read, fault}
use Rattle.syntax_parses.specs.declared.Fed.{Fed}
use Rattle.syntax_parses.specs.declared.SyntaxFault.{SyntaxFault}

abbrev pub after_by : Result Fed ℕ → List ℕ → List ℕ → AfterToken
after_by (Ok f) stack out = on (drop f.top stack) (take f.wrote out)
after_by (Err n) stack out = off n

-- symbols and words together grow by 8 at most
abbrev pub FedWithin : Result Fed ℕ → ℕ → ℕ → ℕ → Type 0
FedWithin (Ok f) top m most = (f.top ≤ most) × (top ≤ f.top + 8) × (f.wrote + top ≤ m + f.top + 8)
FedWithin (Err n) top m most = Unit {0}

abbrev pub parsed_by : Result ℕ SyntaxFault → List ℕ → Parsed
parsed_by (Ok m) out = read (take m out)
parsed_by (Err f) out = fault f.fault f.token
