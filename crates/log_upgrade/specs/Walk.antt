-- The walk along the entries of a log that makes its upgrade.
use Rattle.std.specs.Prelude.{◌≡◌, ℕ, ◌≤◌, false, List, [], ◌∷◌, ◌++◌, take, drop, length, IsTrue, None}
use Rattle.std.specs.List.{list_all}
use Rattle.frac128.specs.Held.{is_held}
use Rattle.frac128.specs.declared.vectors.Spot.{Spot}
use Rattle.vlp_problem.specs.declared.problem.Problem.{Problem}
use Rattle.deriv_log.specs.Formed.{is_formed, IsLog}
use Rattle.deriv_log.specs.LogText.{log_text}
use Rattle.deriv_log.specs.declared.entry.Entry.{Entry}
use Rattle.deriv_log.specs.declared.entry.Entry.TheVariants.{Share}
use Rattle.log_versions.specs.Plain.{is_version_2}
use Rattle.log_versions.specs.Upgrade.{naming, more_shared, upgraded_entry, upgraded_after}
use Rattle.log_versions.specs.WrittenEvents.{log_failure}
use Rattle.cert_check.specs.StandsFor.{StandsFor}
use Rattle.cert_check.specs.declared.checker.Checker.{Checker}
use Rattle.log_upgrade.specs.Repeats.{AreStandings}
use Rattle.log_upgrade.specs.declared.repeats.Place.{Place}
use Rattle.log_upgrade.specs.declared.repeats.Place.TheVariants.{Own, First, Again}
use Rattle.log_upgrade.specs.declared.repeats.Repeats.{Repeats}
use Rattle.log_upgrade.specs.declared.walk.Upgraded.{Upgraded}
use Rattle.log_upgrade.specs.declared.walk.Upgraded.TheVariants.{Same, Changed, Shared}
use Rattle.log_upgrade.specs.declared.walk.Upgrader.{Upgrader}

-- what stands in the place of an entry
abbrev pub in_place : Entry → Upgraded → List Entry
in_place e Same = e ∷ []
in_place e (Changed x) = x ∷ []
in_place e (Shared share x) = share ∷ x ∷ []

-- an entry that has its vector at this place
abbrev pub placed : List Spot → Entry → Place → List Entry
placed u e Own = e ∷ []
placed u e (First k) = Share u ∷ naming k e ∷ []
placed u e (Again k) = naming k e ∷ []

-- no event of the log fails, and it is not of version 2
pub record IsFirst (file : Problem) (all : List Entry) : Type 0 where
  pub log : IsLog all
  pub passes : log_failure is_held file all ≡ None
  pub first : is_version_2 all ≡ false
  pub short : length all ≤ 4294967294

-- what is known after some entries of a log, and the one that comes next
pub record IsNext (file : Problem) (all before : List Entry) (vectors : List (List Spot))
    (e : Entry) (after : List Entry) (checker : Checker) (repeats : Repeats) : Type 0 where
  pub log : IsFirst file all
  pub is : all ≡ before ++ e ∷ after
  pub checked : StandsFor file before checker
  pub standings : AreStandings all vectors repeats
  pub few : length vectors ≤ length before

-- the upgrader stands after some entries of a log, and these vectors are shared
pub record StandsAt (file : Problem) (all before : List Entry) (vectors : List (List Spot))
    (u : Upgrader) : Type 0 where
  pub checked : StandsFor file before u.checker
  pub standings : AreStandings all vectors u.repeats
  pub few : length vectors ≤ length before

-- what stands in the place of the entry is that of the upgrade, and can be written
pub record IsUpgraded (q : ℕ) (all before : List Entry) (vectors : List (List Spot)) (e : Entry)
    (u : Upgraded) : Type 0 where
  pub is : in_place e u ≡ upgraded_entry q all before vectors e
  pub formed : IsTrue (list_all is_formed (in_place e u))

-- what stands in the place of the entry is appended, and the upgrader stands after the entry
pub record IsPut (file : Problem) (all before : List Entry) (vectors : List (List Spot))
    (e : Entry) (old new : List Entry) (u : Upgrader) : Type 0 where
  pub upgraded : Upgraded
  pub is : IsUpgraded file.objs all before vectors e upgraded
  pub appended : new ≡ old ++ in_place e upgraded
  pub stands : StandsAt file all (before ++ e ∷ []) (more_shared all vectors e) u

-- what stands in the places of the first i entries is written
pub record IsWritten (file : Problem) (all : List Entry) (i : ℕ) (written : List Entry)
    (u : Upgrader) : Type 0 where
  pub vectors : List (List Spot)
  pub stands : StandsAt file all (take i all) vectors u
  pub rest : written ++ upgraded_after file.objs all (take i all) vectors (drop i all)
      ≡ upgraded_after file.objs all [] [] all
  pub formed : IsTrue (list_all is_formed written)

-- the entries are the upgrade of a log that is not of version 2, and can be written
pub record IsWhole (q : ℕ) (all upgrade : List Entry) : Type 0 where
  pub is : upgrade ≡ upgraded_after q all [] [] all
  pub formed : IsTrue (list_all is_formed upgrade)

-- and this is their text
pub record IsWholeText (q : ℕ) (all : List Entry) (text : List ℕ) : Type 0 where
  pub upgrade : List Entry
  pub whole : IsWhole q all upgrade
  pub is : text ≡ log_text upgrade
