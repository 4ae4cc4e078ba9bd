-- `share::post` meets its contract.
use mathlib.Core.Path.{refl}
use native.Mathlib.Omega.{arith}
use lib.ListN.{length-set}
use Rattle.memory.specs.StoringLaws.{stored_post}
use Rattle.memory.proofs.share.post.Goals as goal

pub bounds-own-at-2 : goal.bounds-own-at-2
bounds-own-at-2 c =
    simp length-set (omega (arith, c.requires))

pub bounds-own-at-3 : goal.bounds-own-at-3
bounds-own-at-3 c =
    simp length-set (omega (arith, c.requires))

pub returns : goal.returns
returns c =
    rw c.code_of.ensures
    (record {
      numbers = refl;
      meaning = λ p mail adds m h is. stored_post h c.requires.2 c.args.to c.args.flags c.args.sender m is;
    })
