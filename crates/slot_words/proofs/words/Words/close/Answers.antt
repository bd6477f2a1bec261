use Rattle.std.proofs.Common.{rules, ◌≡◌, ℕ, ap, sym, subst, arith}
use Rattle.std.specs.Slots.{slots_items, slots_counts}
use Rattle.slot_words.specs.declared.kinds.KindCounts.{KindCounts}
use Rattle.slot_words.specs.Accounts.{AreKept}
use Rattle.slot_words.specs.Closing.{ClosesAs}
use Rattle.slot_words.specs.KindCounts.{kind_counts}
use Rattle.slot_words.specs.Passes.{Home, operations, share_of, trails}
use Rattle.slot_words.specs.Owned.{passes_of, slots_of}
use Rattle.slot_words.proofs.CoreLaws.{laws_of}
use Rattle.slot_words.proofs.Closings.{last_core}
use Rattle.slot_words.proofs.words.Words.close.Goals as goal

pub count_kinds-counts-requires : goal.count_kinds-counts-requires
count_kinds-counts-requires g c = let z = c.close_with-closed.ensures in let row = c.close_with-closed.result.words in let n = (slots_counts row).0 in let k = z.counts.0 in let d = c.args.self.words_are in
    let last = last_core (laws_of c.core_laws.ensures) g.V.Pooled.fits _ _ _ c.args.self.slots (slots_items row) _ (omega arith) c.requires.idle.0 (ap (λ (h : Home). h.unsplit) c.requires.own) z.values.2 in record {
      full = search rules;
      words = (last.core.words, last.slots_are, last.begins);
    }

pub returns : goal.returns
returns g c = let z = c.close_with-closed.ensures in let row = c.close_with-closed.result.words in let n = (slots_counts row).0 in let k = z.counts.0 in let d = c.args.self.words_are in
    let last = last_core (laws_of c.core_laws.ensures) g.V.Pooled.fits _ _ _ c.args.self.slots (slots_items row) _ (omega arith) c.requires.idle.0 (ap (λ (h : Home). h.unsplit) c.requires.own) z.values.2 in
    let is = c.count_kinds-counts.ensures last.core.words last.slots_are last.begins in let w = c.args.self in let p = c.args.pass in
    let held : (kind_counts last.core.words).held ≡ c.count_kinds-counts.result.held = sym (ap (λ (k : KindCounts). k.held) is) in let within = last.held_is in record {
      counts = subst (λ (t : ℕ × KindCounts). ClosesAs (slots_of w) t.0 (passes_of w) (share_of p) (trails p) t.1) (λ i. (w.limit_is i, (sym is) i)) last.closes;
      joined = λ all. record {
        words = last.core.words;
        slots_are = last.slots_are;
        well_formed = last.lawful.words;
        left = (last.left all).0;
        kept = subst (AreKept (operations p)) held (last.left all).1;
        counted = is;
      };
      held = omega arith;
    }
