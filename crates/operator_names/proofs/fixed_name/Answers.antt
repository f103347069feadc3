use Rattle.std.proofs.Common.{◌-◌, refl, sym, ap, arith}
use Rattle.definition.specs.Base.{bytes}
use Rattle.definition.specs.Base.{opened as opened₀}
use Rattle.operator_names.specs.Fixed.{fixed_names, texts}
use Rattle.operator_names.proofs.FixedNames.{numbered_past}
use Rattle.operator_names.proofs.Rows.{names_from, row_at}
use Rattle.operator_names.proofs.fixed_name.Goals as goal

pub returns-then-n-lt-SECOND_FROM : goal.returns-then-n-lt-SECOND_FROM
unfolding opened₀ names_from fixed_names texts
returns-then-n-lt-SECOND_FROM c = row_at 0 52 c.args.n c.args.n c.name_at.ensures (omega arith) (omega arith) refl

pub returns-then-n-lt-THIRD_FROM : goal.returns-then-n-lt-THIRD_FROM
unfolding opened₀ names_from fixed_names texts
returns-then-n-lt-THIRD_FROM c = row_at 52 45 (c.args.n - 52) c.args.n c.name_at-then-n-lt-THIRD_FROM.ensures (omega arith) (omega arith) refl

pub returns-then-n-lt-NAMES : goal.returns-then-n-lt-NAMES
unfolding opened₀ names_from fixed_names texts
returns-then-n-lt-NAMES c = row_at 97 37 (c.args.n - 97) c.args.n c.name_at-then-n-lt-NAMES.ensures (omega arith) (omega arith) refl

pub returns-then-n : goal.returns-then-n
unfolding opened₀ names_from fixed_names texts
returns-then-n c = row_at 134 37 (c.args.n - 134) c.args.n c.name_at-then-n.ensures (omega arith) (omega arith) refl

pub returns : goal.returns
unfolding opened₀
returns c = sym (ap bytes (numbered_past c.args.n (omega arith)))
