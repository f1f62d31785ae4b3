-- Every call of the schema has what is said of a call: refused by a number exactly where that test is the first to fail, and then nothing is done; served
-- exactly where every test passes.
use Prim.Native.Nat.{ℕ}
use mathlib.Core.Path.{◌≡◌, refl, sym, ◌∙◌, ap, subst⁻¹}
use mathlib.Core.Logic.{◌↔◌}
use mathlib.Core.Bool.{true}
use mathlib.Core.Option.{Option, none, some}
use Rattle.words.specs.Tests.{first_failing, number_of, AllPass, FirstFails}
use Rattle.words.proofs.Testing.{passes_all, all_passes, first_fails, fails_first, test_numbered, test_passed}
use Rattle.calls.specs.Calls.{CallSchema, CallResult, result_by_number, result_of_call, counts_by}
use Rattle.calls.specs.Calls.{AnswersRight, RefusedBy, NotRefused, CallRefusals, RightCall}

module _ {I A E B W : Type 0} (c : CallSchema I A E B W) (r : RightCall c) (i : I) where
  -- what the first test that fails decides
  pub by_number_lem : (x : ℕ) → first_failing (c.tests i) ≡ some x → result_of_call c i ≡ result_by_number c i (some x)
  unfolding result_of_call
  by_number_lem x p = ap (result_by_number c i) p

  pub by_none : first_failing (c.tests i) ≡ none → result_of_call c i ≡ result_by_number c i none
  unfolding result_of_call
  by_none p = ap (result_by_number c i) p

  -- a call is refused by its first test that fails, or served
  data Decides : Type 0 where
    refuses : (x : ℕ) → first_failing (c.tests i) ≡ some x → c.says (result_of_call c i).answer ≡ c.refusal x → Decides
    serves : first_failing (c.tests i) ≡ none → AllPass (c.tests i) → Decides

  decides : Decides
  decides = go (first_failing (c.tests i)) refl
    where
      go : (o : Option ℕ) → first_failing (c.tests i) ≡ o → Decides
      go none p = serves p (passes_all (c.tests i) p)
      go (some x) p = refuses x p (ap (λ (o : CallResult A B). c.says o.answer) (by_number_lem x p) ∙ r.refused x)

  not_refused : AllPass (c.tests i) → NotRefused c i
  not_refused h x e =
      r.serving i h x (sym (ap (λ (o : CallResult A B). c.says o.answer) (by_none (all_passes (c.tests i) h))) ∙ e)

  call_refused : (x : ℕ) → RefusedBy c i x ↔ FirstFails x (c.tests i)
  call_refused x =
      (λ e. to decides e, λ h. ap (λ (o : CallResult A B). c.says o.answer) (by_number_lem x (fails_first x (c.tests i) h)) ∙ r.refused x)
    where
      to : Decides → RefusedBy c i x → FirstFails x (c.tests i)
      to (refuses y p q) e = first_fails x (c.tests i) (p ∙ ap some (sym (r.told y) ∙ (ap c.tells (sym q ∙ e) ∙ r.told x)))
      to (serves p h) e = absurd (not_refused h x e)

  pub call_served : NotRefused c i ↔ AllPass (c.tests i)
  call_served = (λ h. to decides h, not_refused)
    where
      to : Decides → NotRefused c i → AllPass (c.tests i)
      to (refuses x p q) h = absurd (h x q)
      to (serves p a) h = a

  -- a test that a served call passed, by its number
  pub call_passed : (n : ℕ) → NotRefused c i → test_numbered n (c.tests i) ≡ true
  call_passed n h = test_passed n (c.tests i) (call_served.0 h)

  answers_with : Decides → AnswersRight c i (result_of_call c i).answer
  answers_with (refuses x p q) =
      record {
        number = ap c.tells q ∙ (r.told x ∙ ap number_of (sym p));
        words = ap (λ (o : CallResult A B). c.counted o.answer) (by_number_lem x p)
            ∙ (r.empty x ∙ ap (λ o. counts_by o (c.counts i) c.nothing) (sym p));
      }
  answers_with (serves p h) =
      record {
        number = ap (λ (o : CallResult A B). c.tells (c.says o.answer)) (by_none p) ∙ (r.zero i h ∙ ap number_of (sym p));
        words = ap (λ (o : CallResult A B). c.counted o.answer) (by_none p)
            ∙ (r.counting i h ∙ ap (λ o. counts_by o (c.counts i) c.nothing) (sym p));
      }

  pub call_answers : AnswersRight c i (result_of_call c i).answer
  call_answers = answers_with decides

  -- where every test passes, it answers and leaves what a served call does
  pub call_serves : AllPass (c.tests i) → result_of_call c i ≡ result_by_number c i none
  call_serves h = by_none (all_passes (c.tests i) h)

  -- so does a call that is not refused
  pub call_so : NotRefused c i → result_of_call c i ≡ result_by_number c i none
  call_so h = call_serves (call_served.0 h)

  pub call_refusals : CallRefusals c i
  call_refusals =
      record {
        order = r.order i;
        number = call_answers;
        refused = call_refused;
        unchanged = λ x e. let q = by_number_lem x (fails_first x (c.tests i) ((call_refused x).0 e)) in
            record { buffers = ap (λ (o : CallResult A B). o.buffers) q; words = ap (λ (o : CallResult A B). c.counted o.answer) q ∙ r.empty x };
        served = call_served;
      }

  -- what equals the call's result has its number and its words
  pub call_told : {o : CallResult A B} → o ≡ result_of_call c i → (o ≡ result_of_call c i) × AnswersRight c i o.answer
  call_told e = (e, subst⁻¹ (AnswersRight c i) (ap (λ (o : CallResult A B). o.answer) e) call_answers)
