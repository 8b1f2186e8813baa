-- Reading the frame in front of some bytes, but for the check of its evidence.
use Rattle.std.specs.Prelude.{ℕ, ◌+◌, ◌-◌, Result, Ok, Err, List, length, take, drop, nat_lt, ◌==◌, if◌then◌else◌}
use Rattle.std.specs.Int.{w32, from_le_bytes}
use Rattle.cert_check.specs.declared.entry.Entry.{Entry}
use Rattle.entry_codec.specs.declared.fault.FrameEnd.{FrameEnd}
use Rattle.entry_codec.specs.declared.fault.FrameEnd.TheVariants.{Ended, Short, TooLong, BadBody}
use Rattle.entry_codec.specs.declared.limits.TheConstants.{MAX_BODY}
use Rattle.entry_codec.specs.Bodies.{Body, entry_of}
use Rattle.entry_codec.specs.BodyReading.{body_in}

-- the body behind a length that says so
abbrev pub content_of : ℕ → List ℕ → Result (List ℕ) FrameEnd
content_of said rest =
    if nat_lt MAX_BODY said then Err TooLong else (if nat_lt (length rest) said then Err Short else
    Ok (take said rest))

-- the body of the frame in front
unfoldable pub content_in : List ℕ → Result (List ℕ) FrameEnd
content_in bytes =
    if length bytes == 0 then Err Ended else (if nat_lt (length bytes) 4 then Err Short else
    content_of (from_le_bytes w32 (take 4 bytes)) (drop 4 bytes))

-- what was read of a body of this length, as the frame's entry and length or as the place of the fault
abbrev pub found_in : ℕ → Result Body ℕ → Result (Entry × ℕ) FrameEnd
found_in size (Ok body) = Ok (entry_of body, 4 + size)
found_in size (Err left) = Err (BadBody (4 + size - left))

-- the same of the body, where there is one
abbrev pub found_of : Result (List ℕ) FrameEnd → Result (Entry × ℕ) FrameEnd
found_of (Ok content) = found_in (length content) (body_in content)
found_of (Err end) = Err end

-- the entry of the frame in front, whose evidence may not check, and the frame's length
unfoldable pub frame_in : List ℕ → Result (Entry × ℕ) FrameEnd
frame_in bytes = found_of (content_in bytes)
