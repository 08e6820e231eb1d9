use Rattle.std.proofs.Common.{◌++◌, string_bytes, sym, ap, ◌∙◌, append-nil}
use Rattle.std.proofs.lemmas.List.{drop_all}
use Rattle.std.proofs.lemmas.Result.{IfOk-from_err}
use Rattle.session.specs.Sixteen.{hex_text}
use Rattle.session.proofs.Digits.{reads_back, written_more}
use Rattle.session.proofs.hex.hex_text.Goals as goal

pub returns-in_err-push : goal.returns-in_err-push
returns-in_err-push c = record { text = IfOk-from_err _ _ c.from_residual.ensures.0; back = reads_back }

pub returns-in_err-push-2 : goal.returns-in_err-push-2
returns-in_err-push-2 c = record { text = IfOk-from_err _ _ c.from_residual-in_err-push-2.ensures.0; back = reads_back }

pub loop-b-preserved : goal.loop-b-preserved
loop-b-preserved c =
    written_more c.args.bytes.now (string_bytes c.loop-b.text) (string_bytes c.push.new.self) (string_bytes c.push-in-loop-b.new.self) c.loop-b.b-index c.digit_char.result c.digit_char-in-loop-b.result (c.type_inv.bytes c.loop-b.b-index) c.loop-b-test.true
    c.digit_char.ensures c.in_ok-push.ensures.bytes c.digit_char-in-loop-b.ensures c.in_ok-push-2.ensures.bytes c.loop-b.invariant

pub returns : goal.returns
returns c =
    let bs = c.args.bytes.now in
    record {
      text = sym (append-nil (string_bytes c.loop-b.text)) ∙ ap (λ l. string_bytes c.loop-b.text ++ hex_text l) (sym (drop_all c.loop-b.b-index bs c.loop-b-test.false)) ∙ c.loop-b.invariant;
      back = reads_back;
    }
