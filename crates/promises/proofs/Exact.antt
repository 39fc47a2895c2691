-- Exact: the check accepts exactly the sections that read and whose lists are those derived. By Room, lent tables that hold a reading
-- give it. Assumes nothing.
use mathlib.Core.Logic.{◌↔◌}
use Prim.Native.Nat.{ℕ}
use lib.ListN.{length}
use Rattle.format.specs.Section.{Section}
use Rattle.format.specs.Deriving.{DeriveRoom}
use Rattle.format.specs.Tables.{Room}
use Rattle.format.specs.Check.{bones_read}
use Rattle.promises.specs.Meaning.{Sized, Sound, Accepts}
use Rattle.promises.proofs.Room.{room_decides}
use Rattle.promises.proofs.Check.{accepts_reads, accepts_derived, derived_accepts}

pub exact :
    (sec : Section) (root : ℕ) (room : Room) (droom : DeriveRoom) → Sized sec root room droom →
    Accepts sec room droom root ↔ Sound sec root
exact sec root room droom lent = (
  λ a.
      let r = accepts_reads sec room droom root a.count a.says in
      record {
        skeleton = r.0;
        tables = r.1;
        reads = record { room = room; gives = r.2 };
        derived = accepts_derived sec room droom root r.0 r.1 a.count r.2 a.says;
      },
  λ h.
      let e = (room_decides sec root h.skeleton h.tables h.reads room).0 (lent.read h.skeleton h.tables h.reads) in
      record {
        count = length (bones_read h.skeleton.bones h.tables);
        says = derived_accepts sec room droom root h.skeleton h.tables e
            (lent.derive h.skeleton h.tables h.reads) h.derived;
      },
)
