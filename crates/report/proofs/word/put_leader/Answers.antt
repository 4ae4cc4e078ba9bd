-- `report::word::put_leader` meets its contract. Assumes nothing.
use mathlib.Core.Path.{refl, ap}
use Rattle.text.specs.Text.{bytes}
use Rattle.text.specs.WriterLaws.{writes_then, writes_same}
use Rattle.report.specs.Report.{leader_field}
use Rattle.report.proofs.word.put_leader.Goals as goal

pub returns-in-Nobody : goal.returns-in-Nobody
unfolding bytes
returns-in-Nobody c =
    writes_same c.put_field.ensures (ap leader_field c.in-Nobody.is)

pub returns-in-Owner : goal.returns-in-Owner
returns-in-Owner c =
    writes_same c.put_number.ensures.wrote (ap leader_field c.in-Owner.is)

pub returns-in-Due : goal.returns-in-Due
unfolding bytes
returns-in-Due c =
    rw c.in-Due.is (writes_then c.put_bytes.ensures refl c.put_number-in-Due.ensures.wrote)
