use Rattle.slot_words.proofs.CoreLaws.{laws_of}
use Rattle.slot_words.proofs.SlotEvents.{loads_are_events, claims_are_events, releases_are_events}
use Rattle.slot_words.proofs.PassEvents.{splits_are_events, joins_are_events, closes_are_events, exchanges_are_events}
use Rattle.slot_words.proofs.CountEvents.{warm_loads_are_events, warm_ups_are_events, warm_downs_are_events, stamps_are_events, await_ups_are_events, await_downs_are_events, await_loads_are_events}
use Rattle.slot_words.proofs.laws.steps_are_events.Goals as goal

pub returns : goal.returns
returns g c = let laws = laws_of c.core_laws.ensures in let fits = g.V.Pooled.fits in record {
  loads = loads_are_events laws fits;
  claims = claims_are_events laws fits;
  releases = releases_are_events laws fits;
  exchanges = exchanges_are_events laws fits;
  splits = splits_are_events laws fits;
  joins = joins_are_events laws fits;
  closes = closes_are_events laws fits;
  warm_loads = warm_loads_are_events fits;
  warm_ups = warm_ups_are_events fits;
  warm_downs = warm_downs_are_events fits;
  stamps = stamps_are_events fits;
  await_ups = await_ups_are_events fits;
  await_downs = await_downs_are_events fits;
  await_loads = await_loads_are_events fits;
}
