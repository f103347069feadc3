use Rattle.std.proofs.Common.{arith}
use Rattle.definition.specs.Enums as Enums
use Rattle.definition.specs.Operators as Op
use Rattle.definition.specs.Perform as R
use Rattle.definition.specs.declared.About.TheVariants as About
use Rattle.tree_records.proofs.Exits.{failed}
use Rattle.tree_nodes.proofs.Steps.{refuses_first, fails}
use Rattle.tree_witnesses.proofs.Recording.{recorded, numbered_words, ready_one, under_in}
use Rattle.tree_witnesses.proofs.suspend_resume.Goals as goal

pub about-requires : goal.about-requires
about-requires c = ready_one (omega arith) c.requires

pub returns-in_err-place-clause-operates : goal.returns-in_err-place-clause-operates
unfolding Enums.about
returns-in_err-place-clause-operates c = rw (failed c.from_residual.ensures.1) (fails (λ _. refuses_first _ c.in_err-place.ensures.builds))

pub push_record-requires : goal.push_record-requires
push_record-requires c = under_in c.about.ensures.stays c.in_ok-place.ensures.builds c.requires

pub returns-clause-operates : goal.returns-clause-operates
unfolding Enums.about
returns-clause-operates c = recorded (R.about (Enums.about About.Entity)) (λ s. Op.suspend_resume_text c.args.i) _ _ _ c.in_ok-place.ensures.builds (λ nm i. numbered_words c.args.i c.low.ensures c.high.ensures) (rw c.about.ensures.stays.ceiling at c.push_record.ensures.left)
