-- What the lock's answers stand for.
use Rattle.std.specs.Prelude.{ℕ, Option, None, Some}
use Rattle.std.proofs.Math.Option as maybe
use Rattle.lock.specs.Lock.{Look, not_yet, receives, owns, Told}
use Rattle.lock.specs.declared.Looked.{Looked}
use Rattle.lock.specs.declared.Looked.TheVariants.{NotYet, Receives, Owns}
use Rattle.lock.specs.declared.Worker.{Worker}
use Rattle.lock.specs.declared.HandedOver.{HandedOver}

abbrev pub seen : Looked → Look
seen NotYet = not_yet
seen (Receives task) = receives task
seen Owns = owns

abbrev pub waiter : Option Worker → maybe.Option ℕ
waiter None = maybe.none
waiter (Some w) = maybe.some w.0

abbrev pub told : HandedOver → Told
told r = record { let_in = waiter r.let_in; by = r.by.0 }
