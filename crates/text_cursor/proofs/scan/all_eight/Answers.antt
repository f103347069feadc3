use Rattle.text_cursor.proofs.Scans.{eight_found}
use Rattle.text_cursor.proofs.scan.all_eight.Goals as goal

pub returns : goal.returns
returns g c = eight_found (λ b t. goal.F-post g c.args.holds.now b t) c.args.eight.now c.holds.ensures c.holds-2.ensures c.holds-3.ensures c.holds-4.ensures c.holds-5.ensures c.holds-6.ensures c.holds-7.ensures c.holds-8.ensures
