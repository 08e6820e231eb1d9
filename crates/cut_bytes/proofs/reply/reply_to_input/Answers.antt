use Rattle.std.proofs.Common.{◌≡◌, ℕ, List, ◌++◌, length, take, vec_items, sym, ap, ◌∙◌, subst}
use Rattle.std.proofs.lemmas.Result.{IfOk-weaker}
use Rattle.std.proofs.Math.Seq.{take-append_seam}
use Rattle.cut_bytes.specs.Reply.{ReplyTo}
use Rattle.cut_bytes.proofs.Replies.{cut_fills, fault_replies}
use Rattle.cut_bytes.proofs.reply.reply_to_input.Goals as goal

-- all of a list of just that length
taken : (n : ℕ) (xs ys : List ℕ) → length xs ≡ n → take n (xs ++ ys) ≡ xs
taken n xs ys e = ap (λ k. take k (xs ++ ys)) (sym e) ∙ take-append_seam xs ys

pub returns-in-Ok : goal.returns-in-Ok
returns-in-Ok c =
    let behind = c.cut_bytes.new.out in
    let sized = c.in_ok-out.ensures.len in
    let reply = cut_fills c.args.input.now c.deref_mut.result.now behind _ _ c.sheet_in-sheet.ensures c.set_in.ensures (c.deref_mut.ensures.len ∙ sized) c.in-Ok.field-0 c.in-Ok.ensures in
    subst (ReplyTo c.args.input.now) (sym (taken c.in_ok-out.out.len behind _ (reply.1 ∙ sym sized))) reply.0

pub returns-in-Err : goal.returns-in-Err
returns-in-Err c =
    let sized = c.in_ok-out.ensures.len in
    let reply = fault_replies c.args.input.now c.deref_mut.result.now c.cut_bytes.new.out _ _ c.sheet_in-sheet.ensures c.set_in.ensures (c.deref_mut.ensures.len ∙ sized) c.in-Err.fault c.in-Err.ensures in
    IfOk-weaker c.line_of_fault.result _ _ (λ v e. reply (vec_items v) e) c.line_of_fault.ensures
