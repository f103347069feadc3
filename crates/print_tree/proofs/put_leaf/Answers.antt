use Rattle.std.proofs.Common.{arith}
use Rattle.text_output.specs.Appends.{appended_is}
use Rattle.print_tree.proofs.LeafLaws.{leaf_params, leaf_param, leaf_init, leaf_suspend}
use Rattle.print_tree.proofs.put_leaf.Goals as goal

pub returns-in-25 : goal.returns-in-25
returns-in-25 c = appended_is (leaf_params _ _ c.in-25.is c.wide.ensures) c.put_param_names.ensures

pub returns-in-26 : goal.returns-in-26
returns-in-26 c = appended_is (leaf_param _ _ c.in-26.is c.wide-in-26.ensures c.wide-in-26-2.ensures) c.generic_param_name.ensures

pub returns-in-27 : goal.returns-in-27
returns-in-27 c = appended_is (leaf_init _ _ c.in-27.is) c.put_init_name.ensures

pub returns-in_default : goal.returns-in_default
returns-in_default c = appended_is (leaf_suspend _ _ (λ e. omega arith) (λ e. omega arith) (λ e. omega arith) (λ e. omega arith) c.wide-in_default.ensures) c.put_suspend_resume.ensures
