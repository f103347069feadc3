-- The key, and the wrong readings that it excludes: each table holds, by computation.
use lib.Dec.{T}
use Rattle.definition.specs.Key.{opened, key, shut_out, holds}

pub key_holds : T (holds key)
unfolding opened
key_holds = tt

pub wrong_readings_shut_out : T (holds shut_out)
unfolding opened
wrong_readings_shut_out = tt
