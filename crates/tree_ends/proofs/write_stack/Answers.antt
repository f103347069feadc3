use mathlib.Core.Path.{refl}
use native.Mathlib.Omega.{arith}
use Rattle.tree_nodes.proofs.Ready.{inside_record}
use Rattle.tree_ends.proofs.StackEnds.{fill_first, fill_more, fill_all, fill_none, stack_place}
use Rattle.tree_ends.proofs.write_stack.Goals as goal

pub returns-then-out-numbers : goal.returns-then-out-numbers
returns-then-out-numbers c = fill_none (omega (arith, c.if-out-numbers.true))

pub loop-j-init : goal.loop-j-init
loop-j-init c = fill_first _ _ _

pub field-requires : goal.field-requires
field-requires c = (inside_record _ (stack_place c.loop-j.j c.requires c.loop-j-test.true) c.requires, omega arith)

pub field-requires-in-loop-j : goal.field-requires-in-loop-j
field-requires-in-loop-j c = (inside_record _ (stack_place c.loop-j.j c.requires c.loop-j-test.true) c.requires, omega arith)

pub field-requires-in-loop-j-2 : goal.field-requires-in-loop-j-2
field-requires-in-loop-j-2 c = (inside_record _ (stack_place c.loop-j.j c.requires c.loop-j-test.true) c.requires, omega arith)

pub loop-j-preserved : goal.loop-j-preserved
loop-j-preserved c = fill_more _ _ _ c.loop-j.invariant (omega (arith, c.loop-j-test.true, c.if-out-numbers.false)) c.field.ensures c.field-in-loop-j.ensures c.field-in-loop-j-2.ensures

pub returns : goal.returns
returns c = fill_all c.loop-j.invariant (omega (arith, c.loop-j-test.false, c.loop-j.auto.j-end)) refl (omega (arith, c.if-out-numbers.false))
