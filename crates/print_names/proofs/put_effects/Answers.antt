use Rattle.std.proofs.Common.{◌≡◌, ℕ, List, sym, subst}
use Rattle.text_output.specs.Appends.{Appended, appended_is, appended_nothing, appended_then}
use Rattle.text_output.specs.declared.Sink.{Sink}
use Rattle.print_names.proofs.Lists.{both_effects, only_async, only_throws, no_effects}
use Rattle.print_names.proofs.put_effects.Goals as goal
use Rattle.print_names.proofs.put_effects.Goals.{then-asynchronous, else-asynchronous}

-- the sink under another name
begins : {s t s' : Sink} {a : List ℕ} → t ≡ s → Appended t s' a → Appended s s' a
begins {s' = s'} {a = a} e h = subst (λ (x : Sink). Appended x s' a) e h

ends : {s s' t : Sink} {a : List ℕ} → t ≡ s' → Appended s s' a → Appended s t a
ends {s = s} {a = a} e h = subst (λ (x : Sink). Appended s x a) (sym e) h

pub returns-then-throws : goal.returns-then-throws
returns-then-throws c =
    elim c.if-asynchronous.branch [
      | then-asynchronous w ↦ appended_is (both_effects _ _ w.if-asynchronous.true c.if-throws.true) (appended_then (ends w.out-is w.put_text.ensures) c.put_text-then-throws.ensures)
      | else-asynchronous w ↦ appended_is (only_throws _ _ w.if-asynchronous.false c.if-throws.true) (begins w.out-is c.put_text-then-throws.ensures)
    ]

pub returns-else-throws : goal.returns-else-throws
returns-else-throws c =
    elim c.if-asynchronous.branch [
      | then-asynchronous w ↦ appended_is (only_async _ _ w.if-asynchronous.true c.if-throws.false) (ends w.out-is w.put_text.ensures)
      | else-asynchronous w ↦ appended_is (no_effects _ _ w.if-asynchronous.false c.if-throws.false) (ends w.out-is (appended_nothing c.args.out.now))
    ]
