-- `signed_or` meets its contract. A number has a character, since it is the same beside any other token.
use Rattle.std.proofs.Common.{◌≡◌, ℕ, ◌≤◌, List, [], ◌∷◌, eqb, false, refl, ap, sym, arith, drop, length-drop}
use borrow.Author.Tests.{ne_eqb}
use Rattle.tokens.specs.declared.TokenKind.TheVariants as kind
use Rattle.tokens.specs.declared.Token.{Token}
use Rattle.tokens.specs.Numerals.{token, number_or, signed_or}
use Rattle.tokens.specs.Runs.{run_length}
use Rattle.tokens.proofs.TokenBounds.{number_fits}
use Rattle.token_numbers.proofs.signed_or.Goals as goal

sized : (cs : List ℕ) (t : Token) → t ≡ number_or (token kind.Sign 1) cs → 1 ≤ t.size
unfolding number_or run_length
sized [] t e = omega (arith, ap (λ u. u.size) e)
sized (c ∷ cs) t e =
    let f = number_fits 1 (c ∷ cs) (token kind.Sign 1) (omega arith) (omega arith) in
    omega (arith, f.taken, ap (λ u. u.size) e)

pub overflow_add-number : goal.overflow_add-number
overflow_add-number c =
    let cs = drop c.args.from c.args.points.now in
    let e : c.in-Some.number ≡ number_or (token kind.Sign 0) cs = c.in-Some.ensures (token kind.Sign 0) in
    let f = number_fits 0 cs (token kind.Sign 0) (omega arith) (omega arith) in
    omega (arith, f.within, ap (λ u. u.size) e, length-drop c.args.from c.args.points.now)

pub returns-in-Some : goal.returns-in-Some
unfolding signed_or
returns-in-Some c =
    let cs = drop c.args.from c.args.points.now in
    let e : c.in-Some.number ≡ number_or (token kind.Sign 0) cs = c.in-Some.ensures (token kind.Sign 0) in
    let s : 1 ≤ c.in-Some.number.size = sized cs c.in-Some.number (c.in-Some.ensures (token kind.Sign 1)) in
    let n : eqb c.in-Some.number.size 0 ≡ false = ne_eqb c.in-Some.number.size 0 (λ q. absurd (omega (arith, s, q))) in
    rw (sym e, n) c.make_token.ensures

pub returns-in-None : goal.returns-in-None
unfolding signed_or
returns-in-None c = rw (sym (c.in-None.ensures (token kind.Sign 0))) refl
