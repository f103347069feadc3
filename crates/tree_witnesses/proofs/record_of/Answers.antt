use Rattle.std.proofs.Common.{arith}
use Rattle.definition.specs.Base.{bytes}
use Rattle.definition.specs.Enums as Enums
use Rattle.definition.specs.Perform as R
use Rattle.tree_records.proofs.Exits.{failed}
use Rattle.tree_nodes.proofs.Steps.{refuses_first, fails}
use Rattle.tree_witnesses.proofs.Recording.{recorded, fixed_words, ready_one, under_in}
use Rattle.tree_witnesses.proofs.record_of.Goals as goal

pub about-requires : goal.about-requires
about-requires c = ready_one (omega arith) c.requires

pub returns-in_err-place-clause-operates : goal.returns-in_err-place-clause-operates
returns-in_err-place-clause-operates c = rw (failed c.from_residual.ensures.1) (fails (λ _. refuses_first _ c.in_err-place.ensures.builds))

pub push_record-requires : goal.push_record-requires
push_record-requires c = under_in c.about.ensures.stays c.in_ok-place.ensures.builds c.requires

pub returns-clause-operates : goal.returns-clause-operates
returns-clause-operates c = recorded (R.about (Enums.about c.args.what)) (λ s. bytes (s c.args.name)) _ _ _ c.in_ok-place.ensures.builds (λ nm i. fixed_words (c.fixed_number.ensures nm i)) (rw c.about.ensures.stays.ceiling at c.push_record.ensures.left)
