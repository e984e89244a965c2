-- A worked list of advances: document 01's run of call 7, begun, cut in two places, with a refused advance that is lent another buffer and one
-- that is given another description between the cuts. It shows what demand 3 speaks of, and that there is such a list. Assumes nothing.
use Prim.Native.Nat.{ℕ}
use mathlib.Core.Path.{◌≡◌, refl}
use mathlib.Core.List.{List, [], ◌∷◌}
use Rattle.registers.specs.declared.Register.TheVariants.{Isr}
use Rattle.fields.specs.Field.{bits_at, with_bits, get_of, put_of}
use Rattle.calls.specs.Advances.{Advance, Meets, Follows, none, but, then, made, joined, given, buffer_after, saved_after}
use Rattle.calls.specs.Calls.{Request, is_call, is_kind, manual}
use Rattle.calls.specs.Pieces.{pieces_for}
use Rattle.calls.specs.Refusals.{request_of, lookup_of, verdict_of, check_of, group_taken, accepts}
use Rattle.calls.specs.Run.{Uncut, words_of, uncut_of, begun_of, advance_from, run_of, put_out}
use Rattle.calls.specs.Steps.{access_of, after_of, begin_of, fresh_at, saved_at}
use Rattle.calls.specs.Words.{cr2_of, alter_of}
use Rattle.calls.specs.declared.Advanced.{Advanced}
use Rattle.calls.specs.declared.Call.TheVariants.{Transaction}
use Rattle.calls.specs.declared.Description.{Description}
use Rattle.calls.specs.declared.Outcome.TheVariants.{Done}
use Rattle.calls.specs.declared.Refusal.TheVariants.{List as BadList, SavedCall as BadSavedCall}
use Rattle.calls.specs.declared.Report.{Report}
use Rattle.calls.specs.declared.Report.TheVariants.{Over, Full, Waiting, Refused}
use Rattle.calls.specs.declared.SavedCall.{SavedCall}
use Rattle.calls.specs.declared.Step.{Step}
use Rattle.calls.specs.declared.Step.TheVariants.{StartControl, Wait, Ended}
use Rattle.calls.proofs.Cases.{plain}

abbrev pub d : Description
d = plain 7 0x50

abbrev pub ops : List ℕ
ops = 2 ∷ []

abbrev pub b : List ℕ
b = 0x12 ∷ 0x34 ∷ []

-- the call after n accesses
abbrev after : ℕ → ℕ → Step → SavedCall
after n byte t = saved_at (fresh_at 7 t) t 0 byte 0 0 (Done 0) n

abbrev gave : ℕ → ℕ → SavedCall → Report → Advanced
gave used written s r = record { used = used; written = written; saved = s; report = r }

-- The log has two places and an odd word: full after CR2 and ISR.
abbrev pub cut : Advance
cut = record {
  words = d;
  operations = ops;
  buffer = b;
  answers = 1 ∷ 7 ∷ [];
  log = 0 ∷ 0 ∷ 0 ∷ 0 ∷ 9 ∷ [];
  result = gave 1 2 (after 2 0 StartControl) Full;
  buffer_left = b;
  log_left = 0x104 ∷ 0x020220A0 ∷ 0x18 ∷ 1 ∷ 9 ∷ [];
}

-- Three bytes are lent, which the operations do not make up: refused as 10.
abbrev pub other_buffer : Advance
other_buffer = record {
  words = d;
  operations = ops;
  buffer = 1 ∷ 2 ∷ 3 ∷ [];
  answers = 7 ∷ [];
  log = 0 ∷ 0 ∷ [];
  result = gave 0 0 (after 2 0 StartControl) (Refused BadList);
  buffer_left = 1 ∷ 2 ∷ 3 ∷ [];
  log_left = 0 ∷ 0 ∷ [];
}

-- Call 9 is described, which the saved call is not: refused as 13.
abbrev pub other_call : Advance
other_call = record {
  words = plain 9 0;
  operations = [];
  buffer = b;
  answers = 7 ∷ [];
  log = 0 ∷ 0 ∷ [];
  result = gave 0 0 (after 2 0 StartControl) (Refused BadSavedCall);
  buffer_left = b;
  log_left = 0 ∷ 0 ∷ [];
}

-- The first byte goes out, and a read waits for its answer.
abbrev pub cut_again : Advance
cut_again = record {
  words = d;
  operations = ops;
  buffer = b;
  answers = 0x020200A0 ∷ 3 ∷ [];
  log = 0 ∷ 0 ∷ 0 ∷ 0 ∷ 0 ∷ 0 ∷ 0 ∷ 0 ∷ [];
  result = gave 2 3 (after 5 1 Wait) (Waiting Isr);
  buffer_left = b;
  log_left = 0x04 ∷ 0x020200A0 ∷ 0x18 ∷ 3 ∷ 0x128 ∷ 0x12 ∷ 0 ∷ 0 ∷ [];
}

-- The second byte, and the end; an answer and a place are left.
abbrev pub end : Advance
end = record {
  words = d;
  operations = ops;
  buffer = b;
  answers = 3 ∷ 0x21 ∷ 7 ∷ [];
  log = 0 ∷ 0 ∷ 0 ∷ 0 ∷ 0 ∷ 0 ∷ 0 ∷ 0 ∷ 0 ∷ 0 ∷ [];
  result = gave 2 4 (after 9 2 Ended) (Over (Done 0));
  buffer_left = b;
  log_left = 0x18 ∷ 3 ∷ 0x128 ∷ 0x34 ∷ 0x18 ∷ 0x21 ∷ 0x11C ∷ 0x20 ∷ 0 ∷ 0 ∷ [];
}

abbrev pub advances : List Advance
advances = cut ∷ other_buffer ∷ other_call ∷ cut_again ∷ end ∷ []

-- Each advance by itself, so that no more than one is computed at a time.
cut_meets : Meets cut (begun_of d ops 2).saved
unfolding get_of bits_at put_of with_bits is_call is_kind manual pieces_for lookup_of verdict_of check_of group_taken accepts begun_of advance_from run_of cr2_of alter_of access_of after_of begin_of
cut_meets = refl

other_buffer_meets : Meets other_buffer cut.result.saved
unfolding get_of bits_at put_of with_bits is_call is_kind manual pieces_for lookup_of verdict_of check_of group_taken accepts begun_of advance_from run_of cr2_of alter_of access_of after_of begin_of
other_buffer_meets = refl

other_call_meets : Meets other_call other_buffer.result.saved
unfolding get_of bits_at put_of with_bits is_call is_kind manual pieces_for lookup_of verdict_of check_of group_taken accepts begun_of advance_from run_of cr2_of alter_of access_of after_of begin_of
other_call_meets = refl

cut_again_meets : Meets cut_again other_call.result.saved
unfolding get_of bits_at put_of with_bits is_call is_kind manual pieces_for lookup_of verdict_of check_of group_taken accepts begun_of advance_from run_of cr2_of alter_of access_of after_of begin_of
cut_again_meets = refl

end_meets : Meets end cut_again.result.saved
unfolding get_of bits_at put_of with_bits is_call is_kind manual pieces_for lookup_of verdict_of check_of group_taken accepts begun_of advance_from run_of cr2_of alter_of access_of after_of begin_of
end_meets = refl

pub worked : Follows d ops advances (begun_of d ops 2).saved b
worked =
    then {A = cut} cut_meets refl refl refl tt
    (but {A = other_buffer} other_buffer_meets tt
    (but {A = other_call} other_call_meets tt
    (then {A = cut_again} cut_again_meets refl refl refl tt
    (then {A = end} end_meets refl refl refl tt none))))

-- the whole run, over the answers that they used
abbrev whole : Uncut
whole =
    let q : Request = request_of Transaction d ops 2 in
    uncut_of q 9 (begin_of q) b (1 ∷ 0x020200A0 ∷ 3 ∷ 3 ∷ 0x21 ∷ [])

record Joined : Type 0 where
  accesses : made advances ≡ 9
  answers : given advances ≡ 1 ∷ 0x020200A0 ∷ 3 ∷ 3 ∷ 0x21 ∷ []
  words : joined advances ≡ words_of whole.log
  buffer : buffer_after advances b ≡ whole.buffer
  bytes : put_out whole.log ≡ b
  ended : saved_after advances (begun_of d ops 2).saved ≡ after 9 2 Ended

joined_is_whole : Joined
unfolding get_of bits_at put_of with_bits is_call is_kind manual pieces_for lookup_of verdict_of check_of begun_of uncut_of cr2_of access_of after_of begin_of
joined_is_whole = record { accesses = refl; answers = refl; words = refl; buffer = refl; bytes = refl; ended = refl }
