use Rattle.std.proofs.Common.{◌+◌, ◌*◌}
use Rattle.print_names.specs.Naming.{naming_of}
use Rattle.print_names.specs.Texts.{number_of}
use Rattle.print_tree.proofs.CycleLaws.{Rowing, Celling}
use Rattle.print_tree.proofs.+printing.Given as goal

-- the place falls where a child is printed, and the last number within a record
abbrev pub decreases-print : goal.decreases-print
decreases-print l = 8 * l.place + 5

abbrev pub decreases-print_behind : goal.decreases-print_behind
decreases-print_behind l = 8 * l.place + 6

abbrev pub decreases-print_cell : goal.decreases-print_cell
decreases-print_cell l = 8 * l.place + 1

abbrev pub decreases-print_cells : goal.decreases-print_cells
decreases-print_cells l = 8 * l.place + 2

abbrev pub decreases-print_params : goal.decreases-print_params
decreases-print_params l = 8 * l.place + 6

abbrev pub decreases-print_plain : goal.decreases-print_plain
decreases-print_plain l = 8 * l.place + 3

abbrev pub decreases-print_signed : goal.decreases-print_signed
decreases-print_signed l = 8 * l.place + 7

abbrev pub invariant-print-loop-row : goal.invariant-print-loop-row
invariant-print-loop-row l = Rowing (naming_of l.from) l.from.ws.now l.place l.initial.row l.fn.out l.out l.row

abbrev pub decreases-print-loop-row : goal.decreases-print-loop-row
decreases-print-loop-row l = l.row

abbrev pub invariant-print_cells-loop-i : goal.invariant-print_cells-loop-i
invariant-print_cells-loop-i l = Celling (naming_of l.from) l.from.ws.now l.place l.list.field l.list.count (number_of l.list.sep) l.list.shown l.initial.left l.fn.out l.out l.host l.field l.left l.i
