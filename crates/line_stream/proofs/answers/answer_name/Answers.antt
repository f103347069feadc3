use Rattle.std.proofs.Common.{rules, refl, arith}
use Rattle.line_stream.proofs.answers.Laws.{room_after, sink_accepted, sink_refused}
use Rattle.line_stream.proofs.answers.Sizes.{demangle_fits}
use Rattle.line_stream.proofs.answers.answer_name.Goals as goal

-- src/answers.rt:43:13
pub overflow_add-out : goal.overflow_add-out
overflow_add-out c =
    let r = room_after c.requires.space c.put_byte.ensures c.put_byte-2.ensures _ c.read.ensures (demangle_fits c.args.line.now 256 16384 16384) c.in-Ok.is in
    omega (arith, r.past, r.small)

-- src/answers.rt:43:13
pub invariant_of-out : goal.invariant_of-out
invariant_of-out c = record { fits = room_after c.requires.space c.put_byte.ensures c.put_byte-2.ensures _ c.read.ensures (demangle_fits c.args.line.now 256 16384 16384) c.in-Ok.is }

-- src/answers.rt:33:1
pub returns-in-Ok : goal.returns-in-Ok
returns-in-Ok c = sink_accepted c.requires.space c.put_byte.ensures c.put_byte-2.ensures _ c.read.ensures (demangle_fits c.args.line.now 256 16384 16384) c.in-Ok.is (record { same = record { slice = refl; room = refl }; now = refl; at = refl }) c.put_byte-in-Ok.ensures

-- src/answers.rt:33:1
pub returns-in-Err : goal.returns-in-Err
returns-in-Err c = sink_refused c.requires.space c.put_byte.ensures c.put_byte-2.ensures _ c.read.ensures (demangle_fits c.args.line.now 256 16384 16384) c.in-Err.is c.number.ensures (search rules) (search rules) (record { same = record { slice = refl; room = refl }; now = refl; at = refl }) c.put_refusal.ensures
