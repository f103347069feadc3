use Rattle.std.proofs.Common.{◌*◌, refl}
use Rattle.tree_records.proofs.Stores.{eight, wrote}
use Rattle.tree_records.proofs.make.Goals as goal

pub returns : goal.returns
returns c =
    let a = c.args in
    wrote a.ws.now _ a.place _ refl c.requires (eight a.ws.now (8 * a.place) a.kind a.size a.count a.rest.a a.rest.b a.rest.c a.rest.d a.rest.e)
