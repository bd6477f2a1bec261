-- The sweep that is worked by hand.
use Rattle.std.proofs.Common.{[], ◌∷◌, refl}
use Rattle.pool_core.specs.StateWords.{unpacked}
use Rattle.slot_words.specs.declared.views.Operation.TheVariants.{Load, Claim, Release, WarmDown, AwaitDown}
use Rattle.decommit_batch.specs.Sweep.{IsSweep, IsSweepPart}
use Rattle.decommit_batch.specs.WorkedSweeps.{worked_sweep}

slot_0 : IsSweepPart 5 0 (Load 0 42 ∷ Claim 0 42 ∷ WarmDown 3 ∷ Release 0 0 ∷ [])
slot_0 = (42, (_, refl, (42, (_, refl, record { first = WarmDown 3 ∷ []; second = Release 0 0 ∷ []; done_is = refl; is_first = (unpacked 42, record { packed_is = refl; well_formed = refl }, (3, refl)); is_second = refl }))))

slot_1 : IsSweepPart 5 1 (Load 1 44 ∷ Claim 1 44 ∷ AwaitDown 1 ∷ Release 1 0 ∷ [])
slot_1 = (44, (_, refl, (44, (_, refl, record { first = AwaitDown 1 ∷ []; second = Release 1 0 ∷ []; done_is = refl; is_first = (unpacked 44, record { packed_is = refl; well_formed = refl }, (1, refl)); is_second = refl }))))

slot_4 : IsSweepPart 5 4 (Load 4 42 ∷ Claim 4 43 ∷ [])
slot_4 = (42, (_, refl, (43, refl)))

slot_5 : IsSweepPart 5 5 (Load 5 42 ∷ Claim 5 50 ∷ Release 5 50 ∷ [])
slot_5 = (42, (_, refl, (50, refl)))

slot_6 : IsSweepPart 5 6 (Load 6 44 ∷ Claim 6 0 ∷ Release 6 0 ∷ [])
slot_6 = (44, (_, refl, (0, refl)))

pub worked : IsSweep 5 7 2 worked_sweep
worked = record {
  parts = (_, _, refl, slot_0, (_, _, refl, slot_1, (_, _, refl, (50, refl), (_, _, refl, (43, refl), (_, _, refl, slot_4, (_, _, refl, slot_5, (_, _, refl, slot_6, refl)))))));
  cleaned_is = refl;
}
