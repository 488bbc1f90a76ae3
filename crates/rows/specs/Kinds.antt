-- What stands behind each parameter address (document 01, "What each one does"; D2h, Auto-ID assignment: document 02, request (ii)).
-- Assumes nothing.
use Rattle.std.specs.Prelude.{ℕ, ◌-◌, cond, ◌&&◌, eqb, leb, Some, None, Option}
use Rattle.rows.specs.declared.access.Access.{Access}
use Rattle.rows.specs.declared.access.Access.TheVariants as access
use Rattle.rows.specs.declared.kind.Kind.{Kind}
use Rattle.rows.specs.declared.kind.Kind.TheVariants.{Stored, SetPoint1, SetPoint2, ReadOnly, WriteOnly, Unknown}
use Rattle.rows.specs.declared.kind.Shown.TheVariants.{Identification, Version, ErrorCount, ErrorAt, InputErrors, StatusWord, Differential, Pending, Position}
use Rattle.rows.specs.declared.kind.Order.TheVariants.{System, Calibration, Interlock, Freezing, Assignment}
use Rattle.rows.specs.Table.{place_of}

-- 81h is the oldest error, place 0 of the memory; 8Ah the last of ten
unfoldable pub other_of : ℕ → Kind
other_of a =
    cond (eqb a 0x65) (ReadOnly Identification)
    (cond (eqb a 0x67) (ReadOnly Version)
    (cond (eqb a 0x80) (ReadOnly ErrorCount)
    (cond (leb 0x81 a && leb a 0x8A) (ReadOnly (ErrorAt (a - 0x81)))
    (cond (eqb a 0x96) (ReadOnly InputErrors)
    (cond (eqb a 0xA0) (WriteOnly System)
    (cond (eqb a 0xA7) (WriteOnly Calibration)
    (cond (eqb a 0xA8) (WriteOnly Interlock)
    (cond (eqb a 0xAA) (WriteOnly Freezing)
    (cond (eqb a 0xD2) (WriteOnly Assignment)
    (cond (eqb a 0xFA) (ReadOnly StatusWord)
    (cond (eqb a 0xFB) SetPoint1
    (cond (eqb a 0xFC) (ReadOnly Differential)
    (cond (eqb a 0xFD) (ReadOnly Pending)
    (cond (eqb a 0xFE) (ReadOnly Position)
    (cond (eqb a 0xFF) SetPoint2 Unknown)))))))))))))))

abbrev pub stored_or : Option ℕ → Kind → Kind
stored_or (Some i) other = Stored i
stored_or None other = other

unfoldable pub kind_of : ℕ → Kind
kind_of a = stored_or (place_of a) (other_of a)

-- the access group of each kind; that it is the group of the address is a law
abbrev pub group_of : Kind → Access
group_of (Stored i) = access.ReadWrite
group_of SetPoint1 = access.ReadWrite
group_of SetPoint2 = access.ReadWrite
group_of (ReadOnly s) = access.ReadOnly
group_of (WriteOnly o) = access.WriteOnly
group_of Unknown = access.Unknown
