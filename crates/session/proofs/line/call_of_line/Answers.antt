use Rattle.std.proofs.Common.{◌≡◌, ◌<◌, ◌+◌, ℕ, ◌==◌, [], ◌∷◌, List, length, take, set, rules, tests, refl, ◌∙◌, arith}
use Rattle.std.proofs.lemmas.List.{length-set, length-take-le, take_more_set}
use Rattle.std.proofs.lemmas.Iterator.{YieldsList}
use Rattle.std.proofs.lemmas.Iterator.Consumers.{YieldsList-at}
use Rattle.std.proofs.lemmas.Iterator.Splits.{YieldsList-from_slice_split}
use Rattle.session.specs.Calls.{words, call_of}
use Rattle.session.proofs.Words.{one_more, no_more, name_first, number_more, number_other, number_over, numbers_all}
use Rattle.session.proofs.line.call_of_line.Given.{iterator-loop-word}
use Rattle.session.proofs.line.call_of_line.Goals as goal
use Rattle.session.proofs.line.call_of_line.Goals.{In-Some}

pub loop-word-init : goal.loop-word-init
loop-word-init c =
    let line = c.args.line.now in
    let split : YieldsList iterator-loop-word.next_gives (λ x. x.now) c.split-words.result (words line) =
    YieldsList-from_slice_split _ (λ b. b == 32) line c.split-words.ensures.rest c.split-words.ensures.done c.split-words.ensures.closure (λ x b q k. search (rules, tests)) in
    let name = one_more c.next.new.self c.in_ok-name.name split c.in_ok-name.ensures.steps in
    record {
      words = name.0;
      left = YieldsList-at c.into_iter-word-iterator.ensures.into_iter_gives name.2;
      few = omega arith;
      long = refl;
      call = name_first line c.in_ok-name.name.now [] name.0 name.1 refl;
    }

-- the word that comes is the first of those that are left
next_word : (c : In-Some) → (more : List (List ℕ)) × (c.loop-word.invariant.words ≡ c.in-Some.word.now ∷ more) × YieldsList iterator-loop-word.next_gives (λ x. x.now) c.next-in-loop-word.new.self more
next_word c = one_more c.next-in-loop-word.new.self c.in-Some.word c.loop-word.invariant.left c.in-Some.ensures.steps

pub returns-in_err-number : goal.returns-in_err-number
returns-in_err-number c =
    let was = c.loop-word.invariant in
    let word = next_word (goal.at.returns-in_err-number c).In-Some in
    c.from_residual-in_err-number.ensures
    ∙ number_other c.in_ok-name.name.now (take c.loop-word.count c.loop-word.numbers) c.in-Some.word.now was.words word.0 (call_of c.args.line.now) word.1 c.in_err-number.ensures was.call

pub returns-then-count-eq3 : goal.returns-then-count-eq3
returns-then-count-eq3 c =
    let was = c.loop-word.invariant in
    let word = next_word (goal.at.returns-then-count-eq3 c).In-Some in
    let three : length (take c.loop-word.count c.loop-word.numbers) ≡ 3 = omega (arith, length-take-le c.loop-word.count c.loop-word.numbers (omega (arith, was.few, was.long)), was.long) in
    number_over c.in_ok-name.name.now (take c.loop-word.count c.loop-word.numbers) c.in-Some.word.now c.in_ok-number.number was.words word.0 (call_of c.args.line.now) three word.1 c.in_ok-number.ensures was.call

pub loop-word-preserved : goal.loop-word-preserved
loop-word-preserved c =
    let was = c.loop-word.invariant in
    let word = next_word (goal.at.loop-word-preserved c).In-Some in
    let i = c.loop-word.count in
    let inside : i < length c.loop-word.numbers = omega (arith, was.few, was.long) in
    record {
      words = word.0;
      left = word.2;
      few = omega (arith, was.few, was.long);
      long = length-set c.loop-word.numbers i c.in_ok-number.number ∙ was.long;
      call = number_more c.in_ok-name.name.now (take i c.loop-word.numbers) (take (i + 1) (set c.loop-word.numbers i c.in_ok-number.number)) c.in-Some.word.now c.in_ok-number.number was.words word.0 (call_of c.args.line.now)
          word.1 c.in_ok-number.ensures (take_more_set c.loop-word.numbers i c.in_ok-number.number inside) was.call;
    }

pub returns : goal.returns
returns c =
    let was = c.loop-word.invariant in
    let none = no_more c.next-in-loop-word.new.self was.left c.in-None.ensures.steps in
    c.call_by_name.ensures ∙ numbers_all c.in_ok-name.name.now (take c.loop-word.count c.loop-word.numbers) was.words (call_of c.args.line.now) none was.call
