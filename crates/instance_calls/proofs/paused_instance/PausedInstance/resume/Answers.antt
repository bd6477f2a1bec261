use Rattle.std.proofs.Common.{◌≡◌, ◌+◌, ◌∙◌, ℕ, List, Some, refl, sym, ap, subst}
use Rattle.wasm_values.specs.declared.outcome.Val.{Val}
use Rattle.paused_call.specs.declared.call.SliceEnd.{SliceEnd}
use Rattle.paused_call.specs.declared.call.SliceEnd.TheVariants as turned
use Rattle.paused_call.specs.Fuel.{LeavesFuel, fuel_left, left_in}
use Rattle.instance_calls.specs.CallWords.{EndsAs, HasSliced, MayCall}
use Rattle.instance_calls.specs.Parts.{BelongsTo, table_slot}
use Rattle.instance_calls.specs.PausedInstances.{comes_to, paused_view}
use Rattle.instance_calls.specs.PausedViews.{PausedView}
use Rattle.instance_calls.specs.Resumed.{HasMore, IsOver}
use Rattle.instance_calls.proofs.paused_instance.PausedInstance.resume.Goals as goal

pub invariant_of-result : goal.invariant_of-result
invariant_of-result g c =
    let x = c.self.inside.instance in
    let m = c.self.inside.module in
    record {
      paused = c.resume-turned.ensures.paused c.in-Again.is;
      memory_belongs = subst (BelongsTo m) (sym c.resume-turned.ensures.slots.memory) c.self.invariant.memory_belongs;
      table_belongs = subst (BelongsTo m) (ap table_slot (sym c.resume-turned.ensures.slots.table)) c.self.invariant.table_belongs;
      export = c.self.invariant.export;
      may = subst (λ (l : List Val). MayCall m.tree c.self.invariant.export c.resume-turned.new.call.function l) (sym c.resume-turned.ensures.args)
          (subst (λ (f : ℕ). MayCall m.tree c.self.invariant.export f x.ticket.value.args) (sym c.resume-turned.ensures.same.0) c.self.invariant.may);
    }

pub returns-in-Again : goal.returns-in-Again
returns-in-Again g c =
    let config = g.N.Naming.config in
    let m = c.self.inside.module in
    let call = c.self.inside.call in
    let v = paused_view c.self.inside.instance m call c.self.inside.answer in
    let w = paused_view c.resume-turned.new.self m c.resume-turned.new.call c.resume-turned.new.answer in
    let more : HasMore config v c.args.slice w = record {
      waits = subst (λ (t : SliceEnd). HasSliced (comes_to config v) call.fuel (call.turns + c.args.slice) t c.resume-turned.new.answer) c.in-Again.is c.resume-turned.ensures.sliced;
      goes_on = record {
        ticket = c.resume-turned.ensures.slots.ticket;
        memory = c.resume-turned.ensures.slots.memory;
        table = ap table_slot c.resume-turned.ensures.slots.table;
        named = refl;
        function = c.resume-turned.ensures.same.0;
        fuel = c.resume-turned.ensures.same.1;
        args = c.resume-turned.ensures.args;
        turns = c.resume-turned.ensures.turns c.in-Again.is;
      };
      went = c.resume-turned.ensures.went;
    } in
    subst (λ (v : PausedView). HasMore config v c.args.slice w) c.self.view_is more

pub returns-in-Done : goal.returns-in-Done
returns-in-Done g c =
    let config = g.N.Naming.config in
    let m = c.self.inside.module in
    let call = c.self.inside.call in
    let v = paused_view c.self.inside.instance m call c.self.inside.answer in
    let sliced : HasSliced (comes_to config v) call.fuel (call.turns + c.args.slice) (turned.Done c.in-Done.outcome) c.resume-turned.new.answer =
    subst (λ (t : SliceEnd). HasSliced (comes_to config v) call.fuel (call.turns + c.args.slice) t c.resume-turned.new.answer) c.in-Done.is c.resume-turned.ensures.sliced in
    let left : LeavesFuel (comes_to config v) call.fuel (turned.Done c.in-Done.outcome) (fuel_left c.resume-turned.new.call) =
    subst (λ (t : SliceEnd). LeavesFuel (comes_to config v) call.fuel t (fuel_left c.resume-turned.new.call)) c.in-Done.is c.resume-turned.ensures.left in
    let over : IsOver config v c.args.slice c.resume-turned.new.self = record {
      over = sliced.0;
      slots = record { ticket = sym c.resume-turned.ensures.slots.ticket; memory = sym c.resume-turned.ensures.slots.memory; table = ap table_slot (sym c.resume-turned.ensures.slots.table) };
      belongs = record { memory = c.self.invariant.memory_belongs; table = c.self.invariant.table_belongs };
      went = c.resume-turned.ensures.went;
    } in (
      subst (λ (v : PausedView). IsOver config v c.args.slice c.resume-turned.new.self) c.self.view_is over,
      subst (λ (v : PausedView). EndsAs (comes_to config v) v.call.fuel c.in-Done.outcome c.resume-turned.new.answer) c.self.view_is sliced.1,
      subst (λ (v : PausedView). left_in (comes_to config v v.call.fuel) ≡ Some c.left.result) c.self.view_is (left ∙ ap (λ (n : ℕ). Some n) (sym c.left.ensures)),
    )
