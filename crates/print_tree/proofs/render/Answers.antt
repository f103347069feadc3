use Rattle.std.proofs.Common.{refl}
use Rattle.print_tree.proofs.RenderLaws.{once_out, once_in, rendered_out, rendered_in}
use Rattle.print_tree.proofs.render.Goals as goal

pub returns-then-room-m : goal.returns-then-room-m
returns-then-room-m c = once_out c.args.out.now refl c.printed-m.ensures c.if-m-le-SMALL.true c.if-room-m.true

pub returns-then-m-le-SMALL : goal.returns-then-m-le-SMALL
returns-then-m-le-SMALL c = once_in c.args.out.now refl c.printed-m.ensures c.if-m-le-SMALL.true c.if-room-m.false c.copied.ensures

pub returns-then-room-n : goal.returns-then-room-n
returns-then-room-n c = rendered_out c.args.out.now c.printed-n.ensures c.if-room-n.true

pub returns : goal.returns
returns c = rendered_in c.args.out.now c.printed-n.ensures c.if-room-n.false c.printed.ensures
