use Rattle.std.proofs.Common.{◌≡◌, ◌<◌, rules, arith, subst, sym, length, ℕ, List, take}
use Rattle.std.specs.List.{All}
use Rattle.std.proofs.lemmas.List.{take_more_set, length-take-le}
use Rattle.std.proofs.lemmas.List.Elements.{All-push}
use Rattle.pool_core.specs.declared.words.StateWord.{StateWord}
use Rattle.pool_core.specs.StateWords.{IsWordOf}
use Rattle.slot_words.specs.Owned.{slots_of}
use Rattle.slot_words.proofs.ScanTrails.{one_load_more}
use Rattle.slot_words.proofs.words.Words.scan_into.Goals as goal

pub loop-n-preserved : goal.loop-n-preserved
loop-n-preserved g c =
    let i = c.loop-n.invariant in let n = c.loop-n.n in let r : ℕ = c.load.result in let row : List ℕ = c.loop-n.row in
    let within : n < length row = let l = i.len in omega (arith, c.loop-n-test.true, c.slots-n-end.ensures.is, c.requires.room) in
    let more = take_more_set row n r within in
    let len = length-take-le n row (omega arith) in
    record {
      same = search rules;
      keeps = search rules;
      len = search rules;
      loads = one_load_more n r (take n row) _ _ _ _ len i.loads c.load.ensures.trail more;
      words = subst (All (λ (x : ℕ). (w : StateWord) × IsWordOf x w)) (sym more) (All-push (λ (x : ℕ). (w : StateWord) × IsWordOf x w) (take n row) r i.words c.load.ensures.word);
    }

pub returns-clause-words : goal.returns-clause-words
returns-clause-words g c =
    let e : c.loop-n.n ≡ slots_of c.args.self.now = let up = c.loop-n.auto.n-end in omega (arith, c.loop-n-test.false, c.slots-n-end.ensures.is) in
    subst (λ (k : ℕ). All (λ (x : ℕ). (w : StateWord) × IsWordOf x w) (take k c.loop-n.row)) e c.loop-n.invariant.words
