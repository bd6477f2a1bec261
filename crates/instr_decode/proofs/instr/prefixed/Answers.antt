use Rattle.std.proofs.Common.{refl, ap, ◌∙◌, arith}
use Rattle.wasm_types.specs.declared.instr.Instr.TheVariants as instr
use Rattle.wasm_spec.specs.InstrGrammar.{PrefixedRow, prefixed_row}
use Rattle.leb_read.specs.Reading.{rest}
use Rattle.instr_decode.proofs.Decoding.{exits}
use Rattle.instr_decode.proofs.AddedOpcodes.{none-numbered, none-prefixed}
use Rattle.instr_decode.proofs.instr.prefixed.Goals as goal

abbrev copy_row : PrefixedRow
copy_row = record { number = 10; instr = instr.MemoryCopy; zeros = 2 }

abbrev fill_row : PrefixedRow
fill_row = record { number = 11; instr = instr.MemoryFill; zeros = 1 }

pub returns-in_err-zeros-in-10-clause-read : goal.returns-in_err-zeros-in-10-clause-read
returns-in_err-zeros-in-10-clause-read c =
    exits c.from_residual-in_err-zeros-in-10.result _ _ c.in_err-zeros-in-10.field-0.0 c.from_residual-in_err-zeros-in-10.ensures.1
    (none-prefixed c.in_ok-number.number copy_row (rest c.args.cursor.now) (rest c.u32.new.self) c.in_err-zeros-in-10.field-0.0 c.in_ok-number.ensures.spelled (ap prefixed_row c.in-10.is) c.in_err-zeros-in-10.ensures.read)

pub returns-in_ok-zeros-in-10-clause-read : goal.returns-in_ok-zeros-in-10-clause-read
returns-in_ok-zeros-in-10-clause-read c =
    let n = c.in_ok-number.ensures in
    let z = c.in_ok-zeros-in-10.ensures.read in
    record {
      whole = z.whole ∙ n.whole;
      forth = omega (arith, z.forth, n.forth);
      within = z.within;
      spelled = record { number = c.in_ok-number.number; mid = rest c.u32.new.self; row = copy_row; spelled = n.spelled; found = ap prefixed_row c.in-10.is; is = refl; zeros = z.spelled };
    }

pub returns-in_err-zeros-in-11-clause-read : goal.returns-in_err-zeros-in-11-clause-read
returns-in_err-zeros-in-11-clause-read c =
    exits c.from_residual-in_err-zeros-in-11.result _ _ c.in_err-zeros-in-11.field-0.0 c.from_residual-in_err-zeros-in-11.ensures.1
    (none-prefixed c.in_ok-number.number fill_row (rest c.args.cursor.now) (rest c.u32.new.self) c.in_err-zeros-in-11.field-0.0 c.in_ok-number.ensures.spelled (ap prefixed_row c.in-11.is) c.in_err-zeros-in-11.ensures.read)

pub returns-in_ok-zeros-in-11-clause-read : goal.returns-in_ok-zeros-in-11-clause-read
returns-in_ok-zeros-in-11-clause-read c =
    let n = c.in_ok-number.ensures in
    let z = c.in_ok-zeros-in-11.ensures.read in
    record {
      whole = z.whole ∙ n.whole;
      forth = omega (arith, z.forth, n.forth);
      within = z.within;
      spelled = record { number = c.in_ok-number.number; mid = rest c.u32.new.self; row = fill_row; spelled = n.spelled; found = ap prefixed_row c.in-11.is; is = refl; zeros = z.spelled };
    }

pub returns-in_default-clause-read : goal.returns-in_default-clause-read
returns-in_default-clause-read c = none-numbered c.in_ok-number.number (rest c.args.cursor.now) (rest c.u32.new.self) c.in_ok-number.ensures.spelled (λ e. omega arith) (λ e. omega arith)
