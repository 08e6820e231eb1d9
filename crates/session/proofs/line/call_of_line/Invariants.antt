use Rattle.std.proofs.Common.{◌≡◌, ◌≤◌, ℕ, List, length, take}
use Rattle.std.proofs.lemmas.Iterator.{YieldsList}
use Rattle.session.specs.Calls.{call_of}
use Rattle.session.proofs.Words.{call_behind}
use Rattle.session.proofs.line.call_of_line.Given as goal

abbrev pub invariant-loop-word : goal.invariant-loop-word
invariant-loop-word l =
    record {
      words : List (List ℕ);
      left : YieldsList goal.iterator-loop-word.next_gives (λ x. x.now) l.word-iterator words;
      few : l.count ≤ 3;
      long : length l.numbers ≡ 3;
      call : call_of l.line ≡ call_behind l.name (take l.count l.numbers) words;
    }
