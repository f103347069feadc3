use Rattle.std.proofs.Common.{◌<◌, ℕ, sym, subst, arith}
use Rattle.tree_records.specs.Holds.{Named}
use Rattle.print_names.specs.Naming.{naming_of}
use Rattle.print_tree.proofs.CycleLaws.{rowing_piece, rowing_next, rowing_past, rowing_end, placed, puts_by, function_params, function_result, function_puts, other_prints, typed_puts, inside_below, generic_signature, generic_inner, generic_puts, unsigned, celled_label, celled_below, celled_prints, celled_puts, celling_next, celling_past, celling_end, cell_below, cell_some, tuple_some, tuple_puts, other_label, other_puts, params_empty, puts_text, name_alone, child_at, prints_at, labels_reach, listed_to, list_fits}
use Rattle.print_tree.proofs.+printing.Goals as goal

-- PRINT
pub print-returns-then-is_past : goal.print-returns-then-is_past
print-returns-then-is_past t c = rowing_past c.loop-row.invariant c.row_of-row.ensures (grind arith)

pub print-print_plain-requires : goal.print-print_plain-requires
print-print_plain-requires t c =
    let v = rowing_piece c.loop-row.invariant c.loop-row-test.true in
    let h = placed c.place_of-owner.ensures (omega arith) v.is in
    (omega (arith, c.decreases, h.0), (omega (arith, c.requires.inside, h.0), record { text = v.text; is = h.1 }))

pub print-loop-row-preserved : goal.print-loop-row-preserved
print-loop-row-preserved t c = rowing_next c.loop-row.invariant c.loop-row-test.true (puts_by (λ s h. (placed c.place_of-owner.ensures (omega arith) h).1) c.print_plain.ensures)

pub print-returns : goal.print-returns
print-returns t c = rowing_end c.loop-row.invariant c.row_of-row.ensures c.loop-row-test.false

-- PRINT_BEHIND
pub print_behind-print_params-requires : goal.print_behind-print_params-requires
print_behind-print_params-requires t c =
    let v = function_params (naming_of c.args.from.now) c.args.from.now.ws.now c.args.place c.args.labels c.field-kind.ensures.0 c.field-params.ensures.0 c.field-returned.ensures.0 c.if-kind.true c.requires.some in
    (omega (arith, c.decreases, v.0), (inside_below c.requires.inside v.0, (c.requires.reach, v.1)))

pub print_behind-print-requires : goal.print_behind-print-requires
print_behind-print-requires t c =
    let v = function_result (naming_of c.args.from.now) c.args.from.now.ws.now c.args.place c.args.labels c.field-kind.ensures.0 c.field-params.ensures.0 c.field-returned.ensures.0 c.if-kind.true c.requires.some in
    (omega (arith, c.decreases, v.0), (inside_below c.requires.inside v.0, v.1))

pub print_behind-returns-then-kind : goal.print_behind-returns-then-kind
print_behind-returns-then-kind t c = function_puts (naming_of c.args.from.now) c.args.from.now.ws.now c.args.place c.args.labels c.field-kind.ensures.0 c.field-params.ensures.0 c.field-returned.ensures.0 c.if-kind.true c.print_params.ensures c.put_effects_of.ensures c.put_text.ensures c.print.ensures

pub print_behind-print-requires-2 : goal.print_behind-print-requires-2
print_behind-print-requires-2 t c = (omega (arith, c.decreases), (c.requires.inside, record { text = _; is = other_prints (naming_of c.args.from.now) c.args.from.now.ws.now c.args.place c.args.labels c.field-kind.ensures.0 c.requires.some.is }))

pub print_behind-returns : goal.print_behind-returns
print_behind-returns t c = typed_puts (naming_of c.args.from.now) c.args.from.now.ws.now c.args.place c.args.labels c.field-kind.ensures.0 c.if-kind.false c.put_text-2.ensures c.print-2.ensures

-- PRINT_SIGNED
pub print_signed-print-requires : goal.print_signed-print-requires
print_signed-print-requires t c =
    let v = generic_signature (naming_of c.args.from.now) c.args.from.now.ws.now c.args.place c.args.labels c.field-kind.ensures.0 c.field-signature.ensures.0 c.field-inner.ensures.0 c.if-kind.true c.requires.some in
    (omega (arith, c.decreases, v.0), (inside_below c.requires.inside v.0, v.1))

pub print_signed-print_behind-requires : goal.print_signed-print_behind-requires
print_signed-print_behind-requires t c =
    let v = generic_inner (naming_of c.args.from.now) c.args.from.now.ws.now c.args.place c.args.labels c.field-kind.ensures.0 c.field-signature.ensures.0 c.field-inner.ensures.0 c.if-kind.true c.requires.some in
    (omega (arith, c.decreases, v.0), (inside_below c.requires.inside v.0, (c.requires.reach, v.1)))

pub print_signed-returns-then-kind : goal.print_signed-returns-then-kind
print_signed-returns-then-kind t c = generic_puts (naming_of c.args.from.now) c.args.from.now.ws.now c.args.place c.args.labels c.field-kind.ensures.0 c.field-signature.ensures.0 c.field-inner.ensures.0 c.if-kind.true c.print.ensures c.print_behind.ensures

pub print_signed-print_behind-requires-2 : goal.print_signed-print_behind-requires-2
print_signed-print_behind-requires-2 t c = (omega (arith, c.decreases), (c.requires.inside, (c.requires.reach, record { text = c.requires.some.text; is = unsigned (naming_of c.args.from.now) c.args.from.now.ws.now c.args.place c.args.labels c.field-kind.ensures.0 c.if-kind.false c.requires.some.is })))

pub print_signed-returns : goal.print_signed-returns
print_signed-returns t c = puts_by (λ s h. unsigned (naming_of c.args.from.now) c.args.from.now.ws.now c.args.place c.args.labels c.field-kind.ensures.0 c.if-kind.false h) c.print_behind-2.ensures

-- PRINT_CELL
pub print_cell-put_label-requires-clause-some : goal.print_cell-put_label-requires-clause-some
print_cell-put_label-requires-clause-some t c = record { text = _; is = celled_label c.own_label-own.ensures c.requires.some.is }

pub print_cell-print-requires : goal.print_cell-print-requires
print_cell-print-requires t c =
    let e = c.field-element.ensures.0 in
    let d = celled_below c.requires.some.is in
    let b : c.field-element.result < c.args.place = omega (arith, d, e) in
    (omega (arith, c.decreases, b), (inside_below c.requires.inside b, record { text = _; is = celled_prints e c.requires.some.is }))

pub print_cell-returns : goal.print_cell-returns
print_cell-returns t c = celled_puts c.own_label-own.ensures c.field-element.ensures.0 c.put_sep.ensures c.put_label.ensures c.print.ensures

-- PRINT_CELLS
pub print_cells-print_cell-requires : goal.print_cells-print_cell-requires
print_cells-print_cell-requires t c =
    let e = c.field-cell.ensures.0 in
    let d = cell_below c.loop-i.invariant c.loop-i-test.true in
    let b : c.field-cell.result < c.args.place = omega (arith, d, e, c.loop-i.invariant.inside) in
    (omega (arith, c.decreases, b), (inside_below c.requires.inside b, (c.loop-i.invariant.reach, cell_some c.loop-i.invariant c.loop-i-test.true e)))

pub print_cells-loop-i-preserved : goal.print_cells-loop-i-preserved
print_cells-loop-i-preserved t c = celling_next c.loop-i.invariant c.loop-i-test.true c.field-cell.ensures.0 c.print_cell.ensures c.next-left.ensures

pub print_cells-returns-then-is_past : goal.print_cells-returns-then-is_past
print_cells-returns-then-is_past t c = celling_past c.loop-i.invariant (grind arith)

pub print_cells-returns : goal.print_cells-returns
print_cells-returns t c = celling_end c.loop-i.invariant c.loop-i-test.false

-- PRINT_PARAMS
pub print_params-returns-then-kind : goal.print_params-returns-then-kind
print_params-returns-then-kind t c = puts_text (λ s h. params_empty (naming_of c.args.from.now) c.args.from.now.ws.now c.args.place c.args.labels c.field-kind.ensures.0 c.if-kind.true h) c.put_text.ensures

pub print_params-print_cells-requires : goal.print_params-print_cells-requires
print_params-print_cells-requires t c = (omega (arith, c.decreases), (c.requires.inside, (list_fits c.args.from.now.ws.now c.args.place 32 c.list_form-list.ensures, (c.requires.reach, tuple_some (naming_of c.args.from.now) c.args.from.now.ws.now c.args.place c.args.labels c.field-kind.ensures.0 c.list_form-list.ensures.0 c.if-kind-2.true c.requires.some))))

pub print_params-returns-then-kind-2 : goal.print_params-returns-then-kind-2
print_params-returns-then-kind-2 t c = tuple_puts (naming_of c.args.from.now) c.args.from.now.ws.now c.args.place c.args.labels c.field-kind.ensures.0 c.list_form-list.ensures.0 c.if-kind-2.true c.put_text-2.ensures c.print_cells.ensures c.put_text-then-kind-2.ensures

pub print_params-put_label-requires-clause-some : goal.print_params-put_label-requires-clause-some
print_params-put_label-requires-clause-some t c = record { text = _; is = other_label (naming_of c.args.from.now) c.args.from.now.ws.now c.args.place c.args.labels c.field-kind.ensures.0 c.requires.some.is }

pub print_params-print-requires : goal.print_params-print-requires
print_params-print-requires t c = (omega (arith, c.decreases), (c.requires.inside, record { text = _; is = other_prints (naming_of c.args.from.now) c.args.from.now.ws.now c.args.place c.args.labels c.field-kind.ensures.0 c.requires.some.is }))

pub print_params-returns : goal.print_params-returns
print_params-returns t c = other_puts (naming_of c.args.from.now) c.args.from.now.ws.now c.args.place c.args.labels c.field-kind.ensures.0 c.if-kind.false c.if-kind-2.false c.put_text-2.ensures c.put_label.ensures c.print.ensures c.put_text-3.ensures

-- PRINT_PLAIN
pub print_plain-put_named-requires : goal.print_plain-put_named-requires
print_plain-put_named-requires t c = record { some = record { text = c.requires.some.text; is = subst (λ (j : ℕ). Named (naming_of c.args.from.now) j c.requires.some.text) (sym c.field-name.ensures.0) (c.requires.some.is.name c.if-code-lt-CHILDREN.true).1 } }

pub print_plain-returns-then-code-lt-CHILDREN : goal.print_plain-returns-then-code-lt-CHILDREN
print_plain-returns-then-code-lt-CHILDREN t c = puts_by (λ s h. subst (λ (j : ℕ). Named (naming_of c.args.from.now) j s) (sym c.field-name.ensures.0) (h.name c.if-code-lt-CHILDREN.true).1) c.put_named.ensures

pub print_plain-put_named-requires-then-kind : goal.print_plain-put_named-requires-then-kind
print_plain-put_named-requires-then-kind t c =
    let v = child_at c.if-code-lt-CHILDREN.false c.if-code-lt-EFFECTS.true c.field-child.ensures.0 c.requires.some in
    record { some = record { text = v.1.text; is = name_alone c.field-kind.ensures.0 (omega (arith, c.if-kind.true)) c.field-name-then-kind.ensures.0 v.1.is } }

pub print_plain-returns-then-kind : goal.print_plain-returns-then-kind
print_plain-returns-then-kind t c = puts_by (λ s h. name_alone c.field-kind.ensures.0 (omega (arith, c.if-kind.true)) c.field-name-then-kind.ensures.0 (prints_at c.field-child.ensures.0 (h.child c.if-code-lt-CHILDREN.false c.if-code-lt-EFFECTS.true).1)) c.put_named-then-kind.ensures

pub print_plain-print_cells-requires : goal.print_plain-print_cells-requires
print_plain-print_cells-requires t c =
    let v = c.requires.some.is.list c.if-code-lt-TUPLE.false c.if-code-lt-SIGNED.true in
    (omega (arith, c.decreases), (c.requires.inside, (list_fits c.args.from.now.ws.now c.args.place c.args.code c.list_form-list.ensures, (labels_reach c.requires.inside c.none-labels.ensures, record { text = c.requires.some.text; is = listed_to c.args.from.now.ws.now c.args.place c.args.code c.if-code-lt-TUPLE.false v.0 c.list_form-list.ensures.0 c.none-labels.ensures v.1 }))))

pub print_plain-returns-then-code-lt-SIGNED : goal.print_plain-returns-then-code-lt-SIGNED
print_plain-returns-then-code-lt-SIGNED t c = puts_by (λ s h. let v = h.list c.if-code-lt-TUPLE.false c.if-code-lt-SIGNED.true in listed_to c.args.from.now.ws.now c.args.place c.args.code c.if-code-lt-TUPLE.false v.0 c.list_form-list.ensures.0 c.none-labels.ensures v.1) c.print_cells.ensures
