use Rattle.std.proofs.Common.{◌≡◌, map, length, get_or, pos, vec_items, unwrap_or, sym, ap, ◌∙◌}
use Rattle.std.proofs.lemmas.List.{length-map}
use Rattle.reader.specs.Means.{rows_held}
use Rattle.running.specs.States.{start_state}
use Rattle.running.proofs.StatesKept.{start_state_of}
use Rattle.running.proofs.Stepped.{state_as}
use Rattle.sheet.specs.Sections.{rows, components, elements}
use Rattle.open_rig.specs.declared.record.ComponentRecord.{ComponentRecord}
use Rattle.open_rig.specs.declared.record.ElementRecord.{ElementRecord}
use Rattle.open_rig.specs.Tables.{rows_in, state_in}
use Rattle.open_rig.proofs.Records.{field_everywhere}
use Rattle.open_rig.proofs.open.OpenRig.new.Goals as goal

pub invariant_of-tables : goal.invariant_of-tables
invariant_of-tables c =
    let s = rows_held c.args.sheet in
    let ms = c.in-Ok.components in
    let vs = c.in-Ok-vec.elements in
    let m : c.unwrap_or-components.result ≡ length (rows s components) = c.unwrap_or-components.ensures ∙ ap (λ o. unwrap_or o 0) c.count.ensures in
    let n : c.unwrap_or-elements.result ≡ length (rows s elements) = c.unwrap_or-elements.ensures ∙ ap (λ o. unwrap_or o 0) c.count-2.ensures in
    let zeros = c.in-Ok-vec.ensures.items_if_clones_equal (λ y h. h) in
    record {
      placed = record {
        modes_long = length-map (vec_items ms) (λ (r : ComponentRecord). r.mode) ∙ sym ms.ok.0 ∙ c.in-Ok.ensures.len ∙ m;
        held_long = length-map (vec_items vs) (λ (r : ElementRecord). r.value) ∙ sym vs.ok.0 ∙ c.in-Ok-vec.ensures.len ∙ n;
        nothing_else = λ e h. ap (λ l. get_or (map (λ (r : ElementRecord). r.value) l) e (pos 0)) zeros ∙ field_everywhere (λ (r : ElementRecord). r.value) (record { value = pos 0 }) c.unwrap_or-elements.result e;
      };
    }

pub returns : goal.returns
returns c =
    let s = rows_held c.args.sheet in
    let y = c.go_home.new.store in
    let kept = c.go_home.ensures.rows in
    let state = c.go_home.ensures.state in
    record { fits = state_as s (rows_in y) (start_state s) (state_in y) kept state (start_state_of s); rows = kept; state = state }
