-- What holds of every core, looked into.
use Rattle.slot_words.specs.CoreLaws.{CoreLaws, CoresAreLawful}

pub laws_of : CoresAreLawful → CoreLaws
unfolding CoresAreLawful
laws_of h = h
