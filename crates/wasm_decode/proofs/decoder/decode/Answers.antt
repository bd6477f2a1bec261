use Rattle.std.proofs.Common.{List, [], map, subst, arith, IsTrue, rules}
use Rattle.std.proofs.lemmas.List.{length-map}
use Rattle.std.proofs.lemmas.Result.{MatchResult-weaker}
use Rattle.wasm_spec.specs.Numbers.{TakesEach}
use Rattle.wasm_spec.specs.Grammar.{Section, TakesSection, IsOrderedAbove, SpellsFields, Spells}
use Rattle.wasm_spec.proofs.UnambiguousModules.{sections-are}
use Rattle.wasm_decode.specs.Sections.{section_of}
use Rattle.instr_decode.proofs.Decoding.{none-through}
use Rattle.instr_decode.proofs.Wants.{each-begins}
use Rattle.wasm_decode.proofs.decoder.decode.Goals as goal

pub returns-then-are_in_order-clause-read : goal.returns-then-are_in_order-clause-read
returns-then-are_in_order-clause-read c =
    let bytes = c.args.bytes.now in
    let after = c.in-Some.after.now in
    let ss : List Section = map section_of c.in_ok-sections.sections.items in
    let whole : TakesEach TakesSection ss after [] = c.in_ok-sections.ensures.read in
    let r = rw c.as_slice-then-are_in_order.ensures.value at c.decode_fields.ensures.read in
    let o = rw c.as_slice.ensures.value at c.are_in_order.ensures in
    MatchResult-weaker c.decode_fields.result r
    (λ m f. record { after = after; sections = ss; header = c.in-Some.ensures; whole = whole; ordered = o.0 c.if-are_in_order.true; fields = f })
    (λ fault none. none-through (SpellsFields c.args.profile ss) (Spells c.args.profile bytes) fault none
    (λ m h. (m, subst (λ (l : List Section). SpellsFields c.args.profile l m) (sections-are c.args.profile bytes after ss m c.in-Some.ensures whole h) h.fields)))

pub returns-then-are_in_order-clause-wanted : goal.returns-then-are_in_order-clause-wanted
returns-then-are_in_order-clause-wanted c = λ e.
    let items = c.in_ok-sections.sections.items in
    let some = rw c.as_slice-then-are_in_order.ensures.value at c.decode_fields.ensures.wanted e in
    record {
      after = c.in-Some.after.now;
      header = c.in-Some.ensures;
      first = each-begins TakesSection (map section_of items) c.in-Some.after.now [] c.in_ok-sections.ensures.read (omega (arith, some, length-map items section_of));
    }

pub returns-clause-read : goal.returns-clause-read
returns-clause-read c = λ m h.
    let ss : List Section = map section_of c.in_ok-sections.sections.items in
    let o = rw c.as_slice.ensures.value at c.are_in_order.ensures in
    let same = sections-are c.args.profile c.args.bytes.now c.in-Some.after.now ss m c.in-Some.ensures c.in_ok-sections.ensures.read h in
    let holds : IsTrue c.are_in_order.result = o.1 (subst (IsOrderedAbove c.args.profile 0) same h.ordered) in
    absurd (first_of (cc, search rules))
