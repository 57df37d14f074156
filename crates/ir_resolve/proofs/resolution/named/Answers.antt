use Rattle.ir_resolve.proofs.Common.{None, Some, subst, Numbering, Duplicate, IsFirst, written_names, DuplicateAt, Repeats, HasName, IsWrittenOn, known_by}
use Rattle.ir_resolve.proofs.Tabling.{tabulates}
use Rattle.ir_resolve.proofs.Refusals.{refused_at, clear_none, clear_1, misnumbered_first, repeated_first, table_is}
use Rattle.ir_resolve.proofs.resolution.named.Goals as goal

pub returns-in-Some-clause-refused : goal.returns-in-Some-clause-refused
returns-in-Some-clause-refused c =
    let raw = c.args.raw.now in
    let first = misnumbered_first raw c.in_ok-definitions.definitions.items c.in_ok-definitions.ensures c.as_slice-2.result.now (Some c.in-Some.line) c.as_slice-2.ensures.value c.in-Some.ensures in
    refused_at raw c.args.is_repeated Numbering c.in-Some.line c.refused.result c.refused.ensures (λ earlier marks. clear_none earlier raw) (λ earlier marks. first)

pub duplicate-requires : goal.duplicate-requires
duplicate-requires c =
    repeated_first c.args.raw.now c.in_ok-definitions.definitions.items c.in_ok-definitions.ensures c.as_slice-4.result.now c.in_ok-names.repeated_name c.as_slice-4.ensures.value c.in_ok-names.ensures.repeated

pub returns-in-Some-2-clause-refused : goal.returns-in-Some-2-clause-refused
returns-in-Some-2-clause-refused c =
    let raw = c.args.raw.now in
    let numbered = misnumbered_first raw c.in_ok-definitions.definitions.items c.in_ok-definitions.ensures c.as_slice-2.result.now None c.as_slice-2.ensures.value c.in_default.ensures in
    refused_at raw c.args.is_repeated Duplicate c.in-Some-2.line c.refused-in-Some-2.result c.refused-in-Some-2.ensures (λ earlier marks. clear_1 earlier raw numbered)
    (λ earlier marks. subst (IsFirst (DuplicateAt earlier raw)) c.in-Some-2.is (c.in_ok-line.ensures.first earlier marks))

pub returns : goal.returns
returns c =
    let raw = c.args.raw.now in
    let ds = c.in_ok-definitions.definitions.items in
    let once = repeated_first raw ds c.in_ok-definitions.ensures c.as_slice-4.result.now c.in_ok-names.repeated_name c.as_slice-4.ensures.value c.in_ok-names.ensures.repeated in
    let none = c.in_ok-line.ensures.none c.in-None.is in
    record {
      table = tabulates raw (known_by c.in_ok-names.names) (subst (IsFirst (Repeats HasName IsWrittenOn (written_names raw))) none once)
          (table_is raw ds c.in_ok-definitions.ensures c.as_slice.result.now c.as_slice-4.result.now c.in_ok-keys.keys.items c.as_slice-5.result.now (known_by c.in_ok-names.names)
          c.as_slice.ensures.value c.as_slice-4.ensures.value c.as_slice-5.ensures.value c.in_ok-keys.ensures (c.in_ok-names.ensures.names none));
      numbered = misnumbered_first raw ds c.in_ok-definitions.ensures c.as_slice-2.result.now None c.as_slice-2.ensures.value c.in_default.ensures;
      once = λ earlier marks. subst (IsFirst (DuplicateAt earlier raw)) c.in-None.is (c.in_ok-line.ensures.first earlier marks);
      refused = tt;
    }
