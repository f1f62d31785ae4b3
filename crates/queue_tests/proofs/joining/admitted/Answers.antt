-- `admitted` meets its contract, by the steps of the entry.
use Prim.Native.Nat.{◌+◌}
use mathlib.Core.Path.{sym, ◌∙◌, ap}
use mathlib.Core.Bool.{Bool, cond}
use borrow.Author.Tests.{eq-eqb, ne_eqb}
use Rattle.queues.specs.declared.Queued.TheVariants.{Lists}
use Rattle.queue_changes.specs.declared.Queueing.{Queueing}
use Rattle.queue_changes.specs.Changes.{unchanged, appended}
use Rattle.queue_tests.proofs.joining.admitted.Goals as goal

pub returns-then-e-eq0 : goal.returns-then-e-eq0
returns-then-e-eq0 c =
    let a = c.args in
    (λ i. record { answer = Lists a.given (a.kept + 1); line = c.unchanged.ensures i; aside = c.appended.ensures i; entry = a.e })
    ∙ ap (λ (b : Bool). cond {A = Queueing} b
    (record { answer = Lists a.given (a.kept + 1); line = unchanged; aside = appended a.kept; entry = a.e })
    (record { answer = Lists (a.given + 1) a.kept; line = appended a.given; aside = unchanged; entry = a.e }))
    (sym (eq-eqb a.e.allowance 0 c.if-e-eq0.true))

pub returns : goal.returns
returns c =
    let a = c.args in
    (λ i. record { answer = Lists (a.given + 1) a.kept; line = c.appended-2.ensures i; aside = c.unchanged-2.ensures i; entry = a.e })
    ∙ ap (λ (b : Bool). cond {A = Queueing} b
    (record { answer = Lists a.given (a.kept + 1); line = unchanged; aside = appended a.kept; entry = a.e })
    (record { answer = Lists (a.given + 1) a.kept; line = appended a.given; aside = unchanged; entry = a.e }))
    (sym (ne_eqb a.e.allowance 0 c.if-e-eq0.false))
