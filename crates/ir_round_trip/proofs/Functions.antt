-- The canonical form of a function that meets its checks is read as the function.
use Rattle.ir_round_trip.proofs.Common.{CanonicalFunctionsMean}
use Rattle.ir_round_trip.proofs.Canonical.{is_meant}
use Rattle.ir_round_trip.proofs.Faultless.{no_fault}

pub functions_mean : CanonicalFunctionsMean
functions_mean earlier raw f writes meets first = record {
  resolved = (no_fault raw f writes meets.formed earlier first, is_meant raw f writes.means meets.formed);
  checks = meets;
}
