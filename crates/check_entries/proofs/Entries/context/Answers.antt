use Rattle.std.proofs.Common.{sym, ◌∙◌, rules}
use Rattle.definition.specs.Shape as C
use Rattle.check_entries.proofs.Steps.{refuses}
use Rattle.check_entries.proofs.Composites.{context_module, context_itself, context_other}
use Rattle.check_entries.proofs.Entries.context.Goals as goal

pub returns-in_err-e : goal.returns-in_err-e
unfolding C.context
returns-in_err-e c = search (rules, refuses)

pub returns-then-e : goal.returns-then-e
returns-then-e c = rw c.new.ensures (context_module c.in_ok-e.ensures c.requires c.if-e.true)

pub returns-then-not-is_context : goal.returns-then-not-is_context
returns-then-not-is_context c =
    context_other c.in_ok-e.ensures c.if-e.false (sym c.is_context.ensures ∙ c.if-not-is_context.true)

pub returns : goal.returns
returns c = context_itself c.in_ok-e.ensures c.if-e.false (sym c.is_context.ensures ∙ c.if-not-is_context.false)
